use mathlib.Core.Path.{refl}
use borrow.Author.Rules.{rules}
use Rattle.referring.proofs.is_actuator.Goals as goal

pub returns : goal.returns
returns c = rw (← (rw c.wide32.ensures.0 at c.at32.ensures)) refl
