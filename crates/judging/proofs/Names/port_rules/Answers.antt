use Rattle.std.proofs.Common.{ap, ◌∙◌}
use Rattle.refusals.specs.Checks.{first}
use Rattle.judging.specs.Parted.{port-parted, port-plain}
use Rattle.judging.proofs.Names.port_rules.Goals as goal

pub returns-then-port : goal.returns-then-port
returns-then-port c ix = (c.parted_rules.ensures ix).0 ∙ ap first (port-parted _ _ _ _ c.if-port.true)

pub returns : goal.returns
returns c ix = c.use_rules.ensures ∙ rw (c.named-sensor.ensures ix) (ap first (port-plain _ _ _ _ c.if-port.false))
