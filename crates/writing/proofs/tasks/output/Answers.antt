use Rattle.writing.specs.Wrote.{wrote-both, wrote_of}
use Rattle.writing.specs.Cells.{byte_of, quad_of, output_in}
use Rattle.writing.proofs.tasks.output.Goals as goal

pub returns : goal.returns
unfolding output_in
returns c = wrote-both c.name.ensures (wrote-both (wrote_of byte_of c.at32.ensures c.byte.ensures) (wrote_of quad_of c.at32-2.ensures c.quad.ensures))
