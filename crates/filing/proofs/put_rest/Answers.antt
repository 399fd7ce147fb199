use Rattle.writing.specs.Wrote.{wrote-both}
use Rattle.filing.proofs.put_rest.Goals as goal

pub returns : goal.returns
returns c = wrote-both c.drivers.ensures (wrote-both c.guards.ensures (wrote-both c.modes.ensures c.code.ensures))
