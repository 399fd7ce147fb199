use Rattle.kept.specs.Kinds.{kind-no, kind-end}
use native.Mathlib.Omega.{arith}
use Rattle.kept.proofs.pass.ending.Goals as goal

pub returns-then-row-gt19 : goal.returns-then-row-gt19
returns-then-row-gt19 c = λ h. rw (kind-no c.args.row.now c.if-row-gt19.true)

pub returns : goal.returns
returns c = λ h. rw (kind-end c.args.row.now (omega (arith, h, c.if-row-gt19.false)))
