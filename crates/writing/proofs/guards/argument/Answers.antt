use borrow.Author.Tests.{eq-eqb, ne_eqb}
use Rattle.writing.specs.Wrote.{wrote-both}
use Rattle.writing.specs.Cells.{argument_in}
use Rattle.writing.proofs.guards.argument.Goals as goal

pub returns-then-place-eq-PORT : goal.returns-then-place-eq-PORT
unfolding argument_in
returns-then-place-eq-PORT c = rw (eq-eqb _ 0 c.if-place-eq-PORT.true) (wrote-both c.byte.ensures c.pair.ensures)

pub returns-else-place-eq-PORT : goal.returns-else-place-eq-PORT
unfolding argument_in
returns-else-place-eq-PORT c = rw (ne_eqb _ 0 c.if-place-eq-PORT.false) (wrote-both c.byte-else-place-eq-PORT.ensures (wrote-both c.byte-else-place-eq-PORT-2.ensures c.quad.ensures))
