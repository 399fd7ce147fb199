use mathlib.Core.Path.{sym, ◌∙◌}
use borrow.Author.Tests.{eq-eqb, ne_eqb}
use Rattle.lines.specs.Values.{value_in}
use Rattle.lines.proofs.values.one.Goals as goal

pub returns-then-at8-eq105 : goal.returns-then-at8-eq105
unfolding value_in
returns-then-at8-eq105 c = c.int.ensures ∙ simp (eq-eqb _ _ (sym c.at8.ensures ∙ c.if-at8-eq105.true))

pub returns-else-at8-eq105 : goal.returns-else-at8-eq105
unfolding value_in
returns-else-at8-eq105 c = c.boolean.ensures ∙ simp (ne_eqb _ _ (λ e. c.if-at8-eq105.false (c.at8.ensures ∙ e)))
