use mathlib.Core.Path.{sym, ap}
use Rattle.activities.specs.Operands.{function-last, operand_type}
use borrow.Author.Rules.{rules}
use Rattle.activities.proofs.operands.operand_type.Goals as goal

pub returns-in_default : goal.returns-in_default
returns-in_default c = sym (ap operand_type (function-last c.args.number c.in_default.in_default-own.rest.0.0.0.1 c.in_default.in_default-own.rest.0.0.1 c.in_default.in_default-own.rest.0.1))
