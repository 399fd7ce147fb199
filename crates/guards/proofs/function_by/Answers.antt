use Rattle.guards.proofs.Functions.{equal_by}
use mathlib.Core.Path.{sym}
use Rattle.guards.proofs.function_by.Goals as goal

pub returns-in_default : goal.returns-in_default
returns-in_default c = sym (equal_by _ c.in_default.in_default-own.rest.0.0.1 c.in_default.in_default-own.rest.0.1 c.in_default.in_default-own.rest.1)
