use mathlib.Core.Path.{refl}
use borrow.Author.Tests.{eq-eqb, ne_eqb}
use Rattle.referring.specs.Rows.{operand_type_in}
use borrow.Author.Rules.{rules}
use Rattle.referring.proofs.operand_type.Goals as goal

pub returns-then-place-eq0 : goal.returns-then-place-eq0
unfolding operand_type_in
returns-then-place-eq0 c = rw (eq-eqb _ 0 c.if-place-eq0.true, ← (rw c.wide32.ensures.0 at c.at32.ensures)) refl

pub returns : goal.returns
unfolding operand_type_in
returns c = rw (ne_eqb _ 0 c.if-place-eq0.false) refl
