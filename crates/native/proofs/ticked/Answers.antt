use Rattle.std.proofs.Common.{◌+◌, ◌-◌, sym, ap, ◌∙◌}
use Rattle.std.proofs.Math.Nat.{sub-zero}
use Rattle.emachine.specs.declared.Ticked.{Ticked}
use Rattle.native.specs.Copies.{ticks_from}
use Rattle.native.specs.Ticks.{ticks-on, ticks-over}
use Rattle.native.proofs.ticked.Goals as goal

pub loop-k-init : goal.loop-k-init
loop-k-init c = simp sub-zero

pub loop-k-preserved : goal.loop-k-preserved
loop-k-preserved c =
    let m = c.loop-k.machine in
    let a = c.args in
    ap (λ (served : Ticked). ticks_from a.later a.types.now a.words.now (a.times - (c.loop-k._k + 1)) served.machine)
    (sym c.tick.ensures.machine)
    ∙ ticks-on a.later a.types.now a.words.now a.times c.loop-k._k m c.loop-k-test.true
    ∙ c.loop-k.invariant

pub returns : goal.returns
returns c = sym (ticks-over _ _ _ _ _ _ c.loop-k-test.false) ∙ c.loop-k.invariant
