use Rattle.writing.specs.Wrote.{wrote-both, wrote_of}
use Rattle.writing.specs.Cells.{byte_of, quad_of, actuator_in}
use Rattle.writing.proofs.ports.actuator.Goals as goal

pub returns : goal.returns
unfolding actuator_in
returns c = wrote-both c.name.ensures (wrote-both (wrote_of byte_of c.at32.ensures c.byte.ensures) (wrote-both (wrote_of quad_of c.at32-2.ensures c.quad.ensures) c.name-2.ensures))
