use Rattle.std.proofs.Common.{◌∙◌}
use borrow.Author.Tests.{eq-eqb, ne_eqb}
use Rattle.sheets.specs.Sheets.{guard_cell}
use Rattle.heads.proofs.counts.guard_cell.Goals as goal

pub returns-then-acting-eq0 : goal.returns-then-acting-eq0
unfolding guard_cell
returns-then-acting-eq0 c = simp (eq-eqb _ _ c.if-acting-eq0.true)

pub returns-else-acting-eq0 : goal.returns-else-acting-eq0
unfolding guard_cell
returns-else-acting-eq0 c = c.saturating_add.ensures ∙ simp (ne_eqb _ _ c.if-acting-eq0.false)
