use mathlib.Core.Path.{refl}
use borrow.Author.Tests.{eq-eqb, ne_eqb}
use Rattle.referring.specs.Rows.{good_guard_in}
use borrow.Author.Rules.{rules}
use Rattle.referring.proofs.good_guard.Goals as goal

pub returns-then-many-eq1 : goal.returns-then-many-eq1
unfolding good_guard_in
returns-then-many-eq1 c = rw (← (rw c.wide32-at.ensures.0 at c.at32-function.ensures), ← (rw c.wide32-at.ensures.0 at c.at32-many.ensures), ← (rw c.wide32-at.ensures.0 at c.at32-place.ensures), ← (rw c.wide32-at.ensures.0 at c.at32-word.ensures), eq-eqb _ 1 c.if-many-eq1.true) c.good_one.ensures

pub returns-then-many-eq2 : goal.returns-then-many-eq2
unfolding good_guard_in
returns-then-many-eq2 c = rw (← (rw c.wide32-at.ensures.0 at c.at32-function.ensures), ← (rw c.wide32-at.ensures.0 at c.at32-many.ensures), ← (rw c.wide32-at.ensures.0 at c.at32-place.ensures), ← (rw c.wide32-at.ensures.0 at c.at32-word.ensures), ← (rw c.wide32-at.ensures.0 at c.at32-second.ensures), ← (rw c.wide32-at.ensures.0 at c.at32-other.ensures), ne_eqb _ 1 c.if-many-eq1.false, eq-eqb _ 2 c.if-many-eq2.true) c.good_two.ensures

pub returns : goal.returns
unfolding good_guard_in
returns c = rw (← (rw c.wide32-at.ensures.0 at c.at32-many.ensures), ne_eqb _ 1 c.if-many-eq1.false, ne_eqb _ 2 c.if-many-eq2.false) refl
