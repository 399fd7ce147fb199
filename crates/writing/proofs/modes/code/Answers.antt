use Rattle.writing.specs.Wrote.{wrote-both, wrote_of}
use Rattle.writing.specs.Puts.{parts}
use Rattle.writing.specs.Cells.{code_in}
use Rattle.writing.proofs.modes.code.Goals as goal

pub returns-then-has_room : goal.returns-then-has_room
unfolding code_in
returns-then-has_room c = wrote-both c.pair.ensures (wrote_of (parts _) c.few-many.ensures c.whole_code.ensures)

pub returns-else-many-t : goal.returns-else-many-t
unfolding code_in
returns-else-many-t c = wrote-both c.pair.ensures (wrote_of (parts _) c.few-many.ensures c.cut_code.ensures)
