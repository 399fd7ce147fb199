use Rattle.std.proofs.Common.{◌≡◌, arith, sym, ◌∙◌}
use Rattle.std.proofs.Math.Nat.{sub-zero}
use Rattle.emachine.specs.StartLaws.{start-here, start-on, start-over}
use Rattle.emachine.proofs.start_mode.Goals as goal

pub loop-mode-init : goal.loop-mode-init
loop-mode-init c = simp sub-zero

pub returns-then-at32-eq1 : goal.returns-then-at32-eq1
returns-then-at32-eq1 c = sym (start-here _ _ _ c.loop-mode-test.true (sym c.at32.ensures ∙ c.if-at32-eq1.true)) ∙ c.loop-mode.invariant

pub loop-mode-preserved : goal.loop-mode-preserved
loop-mode-preserved c = start-on _ _ _ c.loop-mode-test.true (λ marked. c.if-at32-eq1.false (c.at32.ensures ∙ marked)) ∙ c.loop-mode.invariant

pub returns : goal.returns
returns c =
    let over : c.args.count ≡ c.loop-mode.mode = omega arith in
    over ∙ sym (start-over _ _ _ c.loop-mode-test.false) ∙ c.loop-mode.invariant
