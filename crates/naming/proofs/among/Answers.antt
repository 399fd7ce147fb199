use borrow.Author.Tests.{lt-leb, lt-ltb, le-ltb}
use Rattle.naming.specs.Names.{among_of}
use Rattle.naming.proofs.among.Goals as goal

pub returns-then-number-first : goal.returns-then-number-first
unfolding among_of
returns-then-number-first c = simp (le-ltb _ _ c.if-number-first.true)

pub returns-else-number-first : goal.returns-else-number-first
unfolding among_of
returns-else-number-first c = simp (lt-leb _ _ c.if-number-first.false, lt-ltb _ _ c.if-number-first.false)
