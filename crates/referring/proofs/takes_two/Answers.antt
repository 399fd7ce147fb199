use mathlib.Core.Path.{refl, sym}
use borrow.Author.Tests.{eq-eqb, ne_eqb}
use Rattle.file.specs.References.{function_takes}
use Rattle.referring.specs.RowLaws.{or-false}
use Rattle.referring.proofs.takes_two.Goals as goal

pub returns-then-first-eq0 : goal.returns-then-first-eq0
unfolding function_takes
returns-then-first-eq0 c = rw (c.if-function-eq2.true, eq-eqb _ 0 c.if-first-eq0.true) (sym (or-false _))

pub returns-then-function-eq2 : goal.returns-then-function-eq2
unfolding function_takes
returns-then-function-eq2 c = rw (c.if-function-eq2.true, ne_eqb _ 0 c.if-first-eq0.false) refl

pub returns-then-function-eq3 : goal.returns-then-function-eq3
unfolding function_takes
returns-then-function-eq3 c = rw (c.if-function-eq3.true) refl

pub returns : goal.returns
unfolding function_takes
returns c = rw (ne_eqb _ 2 c.if-function-eq2.false, ne_eqb _ 3 c.if-function-eq3.false) refl
