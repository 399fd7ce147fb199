use mathlib.Core.Path.{refl}
use Rattle.layout.specs.Rows.{zeros}
use Rattle.layout.specs.Plain.{blank}
use Rattle.reading.proofs.blank.Goals as goal

pub returns : goal.returns
unfolding blank zeros
returns c = refl
