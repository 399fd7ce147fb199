use Rattle.writing.specs.Wrote.{wrote-both}
use Rattle.writing.proofs.numbers.Out.head.Goals as goal

pub returns : goal.returns
returns c = wrote-both c.byte.ensures c.name.ensures
