use Rattle.std.proofs.Common.{refl}
use Rattle.names.specs.Tables.{row_at}
use Rattle.names.proofs.whole.Goals as goal

pub returns : goal.returns
unfolding row_at
returns c = refl
