use Rattle.lines.specs.Buffers.{said-then}
use Rattle.naming.specs.Names.{input_of}
use Rattle.naming.proofs.input.Goals as goal

pub returns : goal.returns
unfolding input_of
returns c = said-then c.byte-open.ensures (said-then c.decimal-counted.ensures c.byte.ensures)
