use Rattle.std.proofs.Common.{◌∙◌}
use Rattle.cells.proofs.copy32.Goals as goal

pub returns : goal.returns
returns c = c.put32.ensures ∙ rw c.at32-number.ensures
