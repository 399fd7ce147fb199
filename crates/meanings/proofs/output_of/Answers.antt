use mathlib.Core.Path.{◌∙◌}
use borrow.Author.Tests.{lt-ltb, le-ltb}
use Rattle.refusals.specs.Ports.{output_of}
use Rattle.meanings.proofs.output_of.Goals as goal

pub returns-then-task-lt7 : goal.returns-then-task-lt7
unfolding output_of
returns-then-task-lt7 c ix = (c.named.ensures ix) ∙ simp (lt-ltb _ _ c.if-task-lt7.true)

pub returns-else-task-lt7 : goal.returns-else-task-lt7
unfolding output_of
returns-else-task-lt7 c ix = c.unknown.ensures ∙ simp (le-ltb _ _ c.if-task-lt7.false)
