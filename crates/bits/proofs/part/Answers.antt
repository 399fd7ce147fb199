use Rattle.std.proofs.Common.{refl}
use Rattle.machine.specs.WordLaws.{has-past}
use Rattle.bits.proofs.Shifts.{parts}
use Rattle.bits.proofs.part.Goals as goal

pub returns-then-task-lt64 : goal.returns-then-task-lt64
returns-then-task-lt64 c = parts c.args.word c.args.task c.if-task-lt64.true c.ranges.word.fits

pub returns-else-task-lt64 : goal.returns-else-task-lt64
returns-else-task-lt64 c = rw (has-past c.args.word c.args.task c.ranges.word.fits c.if-task-lt64.false) refl
