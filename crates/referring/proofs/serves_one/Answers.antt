use Rattle.referring.specs.Rows.{serves_one_in}
use borrow.Author.Rules.{rules}
use Rattle.referring.proofs.serves_one.Goals as goal

pub returns : goal.returns
unfolding serves_one_in
returns c = rw (← (rw (c.wide32.ensures.0, c.wide32-at.ensures.0) at c.at32-port.ensures), ← (rw (c.wide32-2.ensures.0, c.wide32-at.ensures.0) at c.at32-wanted.ensures)) c.gives.ensures
