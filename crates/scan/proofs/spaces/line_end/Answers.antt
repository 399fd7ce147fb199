use Prim.Native.Nat.{ℕ}
use lib.ListN.{length}
use mathlib.Core.Path.{◌≡◌, sym, ◌∙◌}
use native.Mathlib.Omega.{arith}
use Rattle.text.proofs.SpacesLaws as law
use Rattle.scan.proofs.spaces.line_end.Goals as goal

pub returns-then-s-i-eq10 : goal.returns-then-s-i-eq10
returns-then-s-i-eq10 c = (omega arith, c.loop-i.invariant ∙ law.line-out _ _ c.loop-i-test.true c.if-s-i-eq10.true)

pub loop-i-preserved : goal.loop-i-preserved
loop-i-preserved c = c.loop-i.invariant ∙ law.line_on _ _ c.loop-i-test.true c.if-s-i-eq10.false

pub returns : goal.returns
returns c =
    let end : ◌≡◌ {A = ℕ} c.loop-i.i (length c.args.s.now) = omega arith in
    (c.requires, c.loop-i.invariant ∙ law.line-end _ _ c.loop-i-test.false ∙ rw end (sym (law.spaces-end _ (length c.args.s.now) (omega arith))))
