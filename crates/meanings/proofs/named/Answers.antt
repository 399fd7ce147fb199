use mathlib.Core.Path.{◌∙◌}
use borrow.Author.Tests.{eq-eqb, ne_eqb}
use Rattle.refusals.specs.Names.{named}
use Rattle.meanings.proofs.named.Goals as goal

pub returns-then-row-sort : goal.returns-then-row-sort
unfolding named
returns-then-row-sort c ix = simp (← (c.find-row.ensures ix), eq-eqb _ _ c.if-row-sort.true)

pub returns-else-row-sort : goal.returns-else-row-sort
unfolding named
returns-else-row-sort c ix = c.unknown.ensures ∙ simp (← (c.find-row.ensures ix), ne_eqb _ _ c.if-row-sort.false)
