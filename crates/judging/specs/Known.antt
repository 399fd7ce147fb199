-- The names that a text declares up to a place: the rows of their table, whose index is right for the text.
use Rattle.std.specs.Prelude.{List}
use Rattle.refusals.specs.declared.Row.{Row}
use Rattle.names.specs.Tables.{rows_in}
use Rattle.names.specs.Index.{Indexed}
use Rattle.judging.specs.declared.Names.{Names}

abbrev pub rows_of : Names → List Row
rows_of names = rows_in names.cells.now names.rows

abbrev pub Right : Names → Type 0
Right names = Indexed names.text.now names.cells.now
