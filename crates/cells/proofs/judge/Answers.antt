use Rattle.std.proofs.Common.{refl, le-ltb, lt-ltb, eq-eqb, ne_eqb}
use Rattle.cells.proofs.judge.Goals as goal

pub returns-then-gone-remaining : goal.returns-then-gone-remaining
returns-then-gone-remaining c = rw (← c.elapsed-gone.ensures, lt-ltb _ _ c.if-gone-remaining.true) refl

pub returns-then-gone-remaining-2 : goal.returns-then-gone-remaining-2
returns-then-gone-remaining-2 c = rw (← c.elapsed-gone.ensures, le-ltb _ _ c.if-gone-remaining.false, eq-eqb _ _ c.if-gone-remaining-2.true) refl

pub returns-else-gone-remaining-2 : goal.returns-else-gone-remaining-2
returns-else-gone-remaining-2 c = rw (← c.elapsed-gone.ensures, le-ltb _ _ c.if-gone-remaining.false, ne_eqb _ _ c.if-gone-remaining-2.false) refl
