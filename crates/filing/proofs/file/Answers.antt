use Rattle.filing.specs.Whole.{filed-aside}
use Rattle.filing.proofs.file.Goals as goal

pub returns : goal.returns
returns c = filed-aside c.args.t.now c.file_of.ensures
