use Rattle.writing.specs.Cells.{byte_of}
use Rattle.writing.proofs.numbers.Out.byte.Goals as goal

pub returns : goal.returns
unfolding byte_of
returns c = c.put.ensures
