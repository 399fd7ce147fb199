use mathlib.Core.Path.{refl}
use borrow.Author.Tests.{eq-eqb, ne_eqb}
use borrow.Author.Rules.{rules}
use Rattle.referring.proofs.is_source.Goals as goal

pub returns-then-role-eq1 : goal.returns-then-role-eq1
returns-then-role-eq1 c = rw (← (rw c.wide32.ensures.0 at c.at32-role.ensures), eq-eqb _ 1 c.if-role-eq1.true) refl

pub returns : goal.returns
returns c = rw (← (rw c.wide32.ensures.0 at c.at32-role.ensures), ne_eqb _ 1 c.if-role-eq1.false) refl
