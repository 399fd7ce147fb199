use Rattle.std.proofs.Common.{sym, ◌∙◌}
use borrow.Author.Tests.{le-ltb}
use Rattle.machine.specs.WordLaws.{has-past}
use Rattle.bits.proofs.has.Goals as goal

pub returns-else-task-lt64 : goal.returns-else-task-lt64
returns-else-task-lt64 c = le-ltb _ 64 c.if-task-lt64.false ∙ sym (has-past c.args.word c.args.task c.ranges.word.fits c.if-task-lt64.false)
