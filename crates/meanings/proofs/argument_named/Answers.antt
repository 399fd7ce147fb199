use mathlib.Core.Path.{◌∙◌}
use Rattle.refusals.specs.Ports.{argument_named}
use Rattle.meanings.specs.Arguments.{argument-undotted}
use Rattle.meanings.proofs.argument_named.Goals as goal

pub returns-then-port : goal.returns-then-port
unfolding argument_named
returns-then-port c ix = (c.port_named.ensures ix) ∙ simp c.if-port.true

pub returns-else-port : goal.returns-else-port
returns-else-port c ix = (c.plain_argument.ensures ix) ∙ argument-undotted _ _ _ c.if-port.false
