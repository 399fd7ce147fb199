use native.Mathlib.Omega.{arith}
use Rattle.std.proofs.Common.{◌∙◌}
use Rattle.lines.specs.ValuesLaws.{negative-none, negative-fits, negative-over}
use Rattle.lines.proofs.values.negative.Goals as goal

pub returns-in-0 : goal.returns-in-0
returns-in-0 c = c.int.ensures ∙ negative-none _ c.in-0.is

pub returns-in-1-to-2147483648 : goal.returns-in-1-to-2147483648
returns-in-1-to-2147483648 c = c.int-in-1-to-2147483648.ensures ∙ negative-fits _ (omega arith) (omega arith)

pub returns-in_default : goal.returns-in_default
returns-in_default c = negative-over _ (omega arith)
