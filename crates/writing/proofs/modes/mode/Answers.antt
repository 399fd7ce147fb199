use Rattle.writing.specs.Wrote.{wrote-both, wrote_of}
use Rattle.writing.specs.Cells.{byte_of, quad_of, mode_in}
use Rattle.writing.proofs.modes.mode.Goals as goal

pub returns : goal.returns
unfolding mode_in
returns c = wrote-both c.name.ensures (wrote-both (wrote_of byte_of c.at32.ensures c.byte.ensures) (wrote-both (wrote_of quad_of c.at32-2.ensures c.quad.ensures) (wrote_of quad_of c.at32-3.ensures c.quad-2.ensures)))
