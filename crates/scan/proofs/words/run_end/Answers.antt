use Prim.Native.Nat.{ℕ}
use mathlib.Core.Path.{◌≡◌, sym, ◌∙◌}
use native.Mathlib.Omega.{arith}
use lib.ListN.{length}
use Rattle.text.proofs.WordsLaws as law
use Rattle.scan.proofs.words.run_end.Goals as goal

pub returns-then-not-takes : goal.returns-then-not-takes
returns-then-not-takes g c =
    λ test tells. sym (c.loop-i.invariant test tells ∙ law.munch-out test _ _ c.loop-i-test.true (sym (tells _ _ (omega (arith, c.type_inv.s c.loop-i.i)) c.if-not-takes.ensures)))

pub loop-i-preserved : goal.loop-i-preserved
loop-i-preserved g c =
    λ test tells. c.loop-i.invariant test tells ∙ law.munch-on test _ _ c.loop-i-test.true (sym (tells _ _ (omega (arith, c.type_inv.s c.loop-i.i)) c.if-not-takes.ensures))

pub returns : goal.returns
returns g c =
    let end : ◌≡◌ {A = ℕ} c.loop-i.i (length c.args.s.now) = omega arith in
    λ test tells. sym (c.loop-i.invariant test tells ∙ law.munch-end test _ _ c.loop-i-test.false ∙ end)
