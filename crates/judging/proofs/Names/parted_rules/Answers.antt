use Rattle.std.proofs.Common.{◌∙◌}
use Rattle.judging.proofs.Names.parted_rules.Goals as goal

pub returns : goal.returns
returns c ix = (
  c.dotted_rules-verdict.ensures ∙ rw (c.output_of-output.ensures ix, c.task_named-task.ensures ix),
  rw (c.output_of-output.ensures ix, c.task_named-task.ensures ix),
)
