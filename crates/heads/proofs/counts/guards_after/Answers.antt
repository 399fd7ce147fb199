use Rattle.std.proofs.Common.{◌∙◌}
use borrow.Author.Tests.{eq-eqb, ne_eqb}
use Rattle.sheets.specs.Sheets.{guards_after}
use Rattle.heads.proofs.counts.guards_after.Goals as goal

pub returns-then-acting-eq0 : goal.returns-then-acting-eq0
unfolding guards_after
returns-then-acting-eq0 c = simp (eq-eqb _ _ c.if-acting-eq0.true)

pub returns-else-acting-eq0 : goal.returns-else-acting-eq0
unfolding guards_after
returns-else-acting-eq0 c = c.saturating_add.ensures ∙ simp (ne_eqb _ _ c.if-acting-eq0.false)
