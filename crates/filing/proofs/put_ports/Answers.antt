use Rattle.writing.specs.Wrote.{wrote-both}
use Rattle.filing.proofs.put_ports.Goals as goal

pub returns : goal.returns
returns c = wrote-both c.head.ensures (wrote-both c.sensors.ensures c.actuators.ensures)
