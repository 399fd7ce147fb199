use Rattle.writing.specs.Wrote.{wrote-both, wrote_of}
use Rattle.writing.specs.Cells.{byte_of, sensor_in}
use Rattle.writing.proofs.ports.sensor.Goals as goal

pub returns : goal.returns
unfolding sensor_in
returns c = wrote-both c.name.ensures (wrote-both (wrote_of byte_of c.at32.ensures c.byte.ensures) c.name-2.ensures)
