use Rattle.std.proofs.Common.{ap, ◌∙◌}
use Rattle.refusals.specs.Checks.{first}
use Rattle.judging.specs.Parted.{argument-parted, argument-type, argument-plain, argument-plain-type}
use Rattle.judging.proofs.Names.argument_rules.Goals as goal

pub returns-then-port : goal.returns-then-port
returns-then-port c ix = (
  (c.parted_rules.ensures ix).0 ∙ ap first (argument-parted _ _ _ _ c.if-port.true),
  (c.parted_rules.ensures ix).1 ∙ argument-type _ _ 0 _ c.if-port.true,
)

pub returns : goal.returns
returns c ix = (
  c.use_rules-verdict.ensures ∙ rw (c.plain_argument-row.ensures ix) (ap first (argument-plain _ _ _ _ c.if-port.false)),
  rw (c.plain_argument-row.ensures ix) (argument-plain-type _ _ 0 _ c.if-port.false),
)
