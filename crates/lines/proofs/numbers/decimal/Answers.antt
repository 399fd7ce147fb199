use mathlib.Core.Path.{sym, ◌∙◌}
use Rattle.lines.specs.NumbersLaws.{number-good, number-bad}
use Rattle.lines.proofs.numbers.decimal.Goals as goal

pub returns-then-all_digits : goal.returns-then-all_digits
returns-then-all_digits c = number-good _ _ (rw c.cut.ensures at (sym c.all_digits.ensures ∙ c.if-all_digits.true)) c.value.ensures

pub returns-else-all_digits : goal.returns-else-all_digits
returns-else-all_digits c = number-bad _ (rw c.cut.ensures at (sym c.all_digits.ensures ∙ c.if-all_digits.false))
