use Rattle.lines.specs.Parts.{cut-is}
use Rattle.lines.proofs.cut.Goals as goal

pub returns : goal.returns
returns c = cut-is _ _ _ _ _ c.min-end.ensures c.min.ensures
