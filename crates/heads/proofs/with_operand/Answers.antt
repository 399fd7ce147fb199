use borrow.Author.Tests.{eq-eqb, ne_eqb}
use Rattle.sheets.specs.Sheets.{with_operand}
use Rattle.heads.proofs.with_operand.Goals as goal

pub returns-then-acting-eq0 : goal.returns-then-acting-eq0
unfolding with_operand
returns-then-acting-eq0 c = simp (eq-eqb _ _ c.if-acting-eq0.true)

pub returns-then-acting-eq1 : goal.returns-then-acting-eq1
unfolding with_operand
returns-then-acting-eq1 c = simp (ne_eqb _ _ c.if-acting-eq0.false, eq-eqb _ _ c.if-acting-eq1.true)

pub returns-else-acting-eq1 : goal.returns-else-acting-eq1
unfolding with_operand
returns-else-acting-eq1 c = simp (ne_eqb _ _ c.if-acting-eq0.false, ne_eqb _ _ c.if-acting-eq1.false)
