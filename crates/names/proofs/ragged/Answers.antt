use Rattle.names.specs.Tables.{row_at}
use Rattle.names.specs.TablesLaws.{row_out}
use Rattle.names.proofs.ragged.Goals as goal

pub returns-then-cells-k : goal.returns-then-cells-k
returns-then-cells-k c = row_out c.args.cells.now c.args.k c.if-cells-k.true

pub returns : goal.returns
unfolding row_at
returns c = rw (c.cell-6.ensures, c.cell-5.ensures, c.cell-4.ensures, c.cell-3.ensures, c.cell-2.ensures, c.cell.ensures)
