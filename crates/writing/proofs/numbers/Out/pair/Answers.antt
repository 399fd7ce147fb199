use Rattle.writing.specs.Cells.{byte_of, pair_of}
use Rattle.writing.proofs.numbers.Out.pair.Goals as goal

pub returns : goal.returns
unfolding pair_of byte_of
returns c = c.put.ensures
