use Rattle.bits.proofs.Shifts.{joins}
use Rattle.bits.proofs.join.Goals as goal

pub returns-then-task-lt64 : goal.returns-then-task-lt64
returns-then-task-lt64 c = joins c.args.word c.args.task c.if-task-lt64.true
