use Rattle.referring.specs.Rows.{good_line_in}
use borrow.Author.Rules.{rules}
use Rattle.referring.proofs.good_line.Goals as goal

pub returns : goal.returns
unfolding good_line_in
returns c = rw (← (rw c.wide32-at.ensures.0 at c.at32-opcode.ensures), ← (rw c.wide32-at.ensures.0 at c.at32-first.ensures), ← (rw c.wide32-at.ensures.0 at c.at32-second.ensures)) c.good_instruction.ensures
