use Rattle.std.proofs.Common.{◌∙◌, refl}
use borrow.Author.Tests.{lt-ltb, le-ltb}
use Rattle.steps.proofs.task_cell.Goals as goal

pub returns-then-task-lt32 : goal.returns-then-task-lt32
returns-then-task-lt32 c = c.at32.ensures ∙ rw (lt-ltb _ 32 c.if-task-lt32.true) refl

pub returns-else-task-lt32 : goal.returns-else-task-lt32
returns-else-task-lt32 c = rw (le-ltb _ 32 c.if-task-lt32.false) refl
