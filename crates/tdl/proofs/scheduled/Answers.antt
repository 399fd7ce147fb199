use Rattle.tdl.specs.Writings.{too_much, enough}
use Rattle.layout.specs.Rows.{zeros}
use native.Mathlib.Omega.{arith}
use borrow.Author.Rules.{rules}
use Rattle.tdl.proofs.scheduled.Goals as goal

pub returns-then-count-gt4096 : goal.returns-then-count-gt4096
unfolding zeros
returns-then-count-gt4096 c = too_much c.requires.0 c.requires.2 (c.planned-plan.ensures c.requires.1 c.requires.0.indexed) c.coded-count.ensures (omega (arith, c.if-count-gt4096.true))

pub returns : goal.returns
unfolding zeros
returns c = enough c.requires.0 c.requires.2 (c.planned-plan.ensures c.requires.1 c.requires.0.indexed) c.coded-count.ensures (omega (arith, c.if-count-gt4096.false)) c.told.ensures c.write.ensures.0 c.write.ensures.1
