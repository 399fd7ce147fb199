use mathlib.Core.Path.{refl, sym, ◌∙◌}
use Rattle.referring.specs.Rows.{good_modes_in}
use borrow.Author.Rules.{rules}
use Rattle.referring.proofs.good_modes.Goals as goal

pub returns-then-good_begins : goal.returns-then-good_begins
unfolding good_modes_in
returns-then-good_begins c = rw (sym c.good_begins.ensures ∙ c.if-good_begins.true, ← c.starts.ensures) refl

pub returns : goal.returns
unfolding good_modes_in
returns c = rw (sym c.good_begins.ensures ∙ c.if-good_begins.false) refl
