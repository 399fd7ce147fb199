use native.Mathlib.Omega.{arith}
use Rattle.lines.specs.ValuesLaws.{pieces_step, pieces_end, filling-begins, filling-on, filling-ends}
use Rattle.lines.proofs.values.fill.Goals as goal

pub loop-at-init : goal.loop-at-init
loop-at-init c = (omega arith, omega arith, filling-begins _ _ _)

pub loop-at-preserved : goal.loop-at-preserved
loop-at-preserved c =
    let step = pieces_step _ _ _ c.loop-at-test.true c.find-end.ensures in
    let value = rw (c.one.ensures, c.cut.ensures) at c.unwrap_or-value.ensures in
    (omega arith, omega arith, rw (c.put32.ensures, c.put32-in-loop-at.ensures, value) (filling-on _ _ (rw step at c.loop-at.invariant.2)))

pub returns : goal.returns
returns c = filling-ends (rw (pieces_end _ _ c.loop-at-test.false) at c.loop-at.invariant.2)
