use Prim.Native.Nat.{ℕ}
use mathlib.Core.Path.{◌≡◌, refl, sym, ◌∙◌}
use native.Mathlib.Omega.{arith}
use Rattle.text.proofs.SpacesLaws as law
use Rattle.scan.proofs.spaces.first.Goals as goal

pub returns-in_default-2 : goal.returns-in_default-2
returns-in_default-2 c =
    (c.loop-i.invariant.0 ∙ law.spaces-other _ _ c.loop-i-test.true (sym c.is_white.ensures ∙ c.if-is_white.false) (λ slash. absurd (omega (arith, slash))), c.loop-i-test.true, refl)

pub loop-i-preserved : goal.loop-i-preserved
loop-i-preserved c = (c.loop-i.invariant.0 ∙ law.spaces-white _ _ c.loop-i-test.true (sym c.is_white.ensures ∙ c.if-is_white.true), omega arith)

pub returns : goal.returns
returns c =
    let end : ◌≡◌ {A = ℕ} c.max.result c.loop-i.i = omega arith in
    (rw end (c.loop-i.invariant.0 ∙ law.spaces-end c.args.s.now c.loop-i.i c.loop-i-test.false), omega arith)
