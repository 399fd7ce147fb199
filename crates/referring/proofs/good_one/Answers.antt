use mathlib.Core.Path.{refl, sym, ◌∙◌}
use Rattle.referring.specs.Rows.{good_one_in}
use borrow.Author.Rules.{rules}
use Rattle.referring.proofs.good_one.Goals as goal

pub returns-then-readable : goal.returns-then-readable
unfolding good_one_in
returns-then-readable c = rw (sym c.readable.ensures ∙ c.if-readable.true, ← c.operand_type.ensures) c.takes_one.ensures

pub returns : goal.returns
unfolding good_one_in
returns c = rw (sym c.readable.ensures ∙ c.if-readable.false) refl
