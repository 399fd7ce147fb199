use mathlib.Core.Path.{refl}
use borrow.Author.Tests.{eq-eqb, ne_eqb}
use Rattle.referring.specs.Rows.{good_release_in}
use borrow.Author.Rules.{rules}
use Rattle.referring.proofs.good_release.Goals as goal

pub returns-then-many-at32 : goal.returns-then-many-at32
unfolding good_release_in
returns-then-many-at32 c = rw (← (rw c.wide32-at.ensures.0 at c.at32.ensures), ← (rw c.wide32-at.ensures.0 at c.at32-many.ensures), ← (rw c.wide32-task.ensures.0 at c.at32-2.ensures), ← (rw c.wide32-task.ensures.0 at c.at32-then-many-at32.ensures), eq-eqb _ _ c.if-many-at32.true) c.serves.ensures

pub returns : goal.returns
unfolding good_release_in
returns c = rw (← (rw c.wide32-at.ensures.0 at c.at32.ensures), ← (rw c.wide32-at.ensures.0 at c.at32-many.ensures), ← (rw c.wide32-task.ensures.0 at c.at32-2.ensures), ne_eqb _ _ c.if-many-at32.false) refl
