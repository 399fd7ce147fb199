use mathlib.Core.Path.{refl}
use Rattle.kept.specs.KeptLaws.{whole}
use Rattle.kept.specs.Cells.{value_back}
use Rattle.kept.proofs.storing.constant.Goals as goal

pub returns : goal.returns
returns c = rw (c.put_value.ensures, c.put_name.ensures, whole c.args.row.now c.requires) (refl, refl, value_back c.args.value)
