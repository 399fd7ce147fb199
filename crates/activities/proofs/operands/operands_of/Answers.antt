use mathlib.Core.Path.{sym, ap}
use Rattle.model.specs.Values.{operands_of}
use Rattle.activities.specs.Operands.{function-last}
use borrow.Author.Rules.{rules}
use Rattle.activities.proofs.operands.operands_of.Goals as goal

pub returns-in_default : goal.returns-in_default
returns-in_default c = sym (ap operands_of (function-last c.args.number c.in_default.in_default-own.rest.0.0.0.1 c.in_default.in_default-own.rest.0.0.1 c.in_default.in_default-own.rest.0.1))
