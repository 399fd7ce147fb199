use mathlib.Core.Path.{refl, sym, ◌∙◌}
use Rattle.referring.specs.Rows.{good_two_in}
use borrow.Author.Rules.{rules}
use Rattle.referring.proofs.good_two.Goals as goal

pub returns-then-readable-2 : goal.returns-then-readable-2
unfolding good_two_in
returns-then-readable-2 c = rw (sym c.readable.ensures ∙ c.if-readable.true, sym c.readable-then-readable.ensures ∙ c.if-readable-2.true, ← c.operand_type.ensures, ← c.operand_type-then-readable-2.ensures) c.takes_two.ensures

pub returns-else-readable-2 : goal.returns-else-readable-2
unfolding good_two_in
returns-else-readable-2 c = rw (sym c.readable.ensures ∙ c.if-readable.true, sym c.readable-then-readable.ensures ∙ c.if-readable-2.false) refl

pub returns-else-readable : goal.returns-else-readable
unfolding good_two_in
returns-else-readable c = rw (sym c.readable.ensures ∙ c.if-readable.false) refl
