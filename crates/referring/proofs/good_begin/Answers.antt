use mathlib.Core.Path.{refl}
use Rattle.referring.specs.Rows.{good_begin_in}
use borrow.Author.Rules.{rules}
use Rattle.referring.proofs.good_begin.Goals as goal

pub returns : goal.returns
unfolding good_begin_in
returns c = rw (← (rw c.wide32.ensures.0 at c.at32.ensures)) refl
