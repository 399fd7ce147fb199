use mathlib.Core.Path.{refl}
use borrow.Author.Tests.{eq-eqb, ne_eqb, lt-ltb, le-ltb}
use Rattle.referring.specs.Rows.{good_driver_in}
use borrow.Author.Rules.{rules}
use Rattle.referring.proofs.good_driver.Goals as goal

pub returns-then-tag-eq3 : goal.returns-then-tag-eq3
unfolding good_driver_in
returns-then-tag-eq3 c = rw (← (rw c.wide32-at.ensures.0 at c.at32-tag.ensures), ← (rw c.wide32-at.ensures.0 at c.at32-target.ensures), ← (rw c.wide32-at.ensures.0 at c.at32.ensures), eq-eqb _ 3 c.if-tag-eq3.true) c.good_update.ensures

pub returns-then-tag-eq4 : goal.returns-then-tag-eq4
unfolding good_driver_in
returns-then-tag-eq4 c = rw (← (rw c.wide32-at.ensures.0 at c.at32-tag.ensures), ← (rw c.wide32-at.ensures.0 at c.at32-target.ensures), ne_eqb _ 3 c.if-tag-eq3.false, lt-ltb _ _ c.if-target-count.true, eq-eqb _ 4 c.if-tag-eq4.true) c.good_release.ensures

pub returns-then-target-count : goal.returns-then-target-count
unfolding good_driver_in
returns-then-target-count c = rw (← (rw c.wide32-at.ensures.0 at c.at32-tag.ensures), ← (rw c.wide32-at.ensures.0 at c.at32-target.ensures), ne_eqb _ 3 c.if-tag-eq3.false, lt-ltb _ _ c.if-target-count.true, ne_eqb _ 4 c.if-tag-eq4.false) refl

pub returns : goal.returns
unfolding good_driver_in
returns c = rw (← (rw c.wide32-at.ensures.0 at c.at32-tag.ensures), ← (rw c.wide32-at.ensures.0 at c.at32-target.ensures), ne_eqb _ 3 c.if-tag-eq3.false, le-ltb _ _ c.if-target-count.false) refl
