use mathlib.Core.Path.{sym, subst}
use Rattle.ecode.specs.Theorems.{Tells, sound-tells}
use Rattle.ecode.proofs.sound.Goals as goal

pub returns : goal.returns
returns c = record { value = c.sound_by.ensures; tells = subst (Tells c.args.t.now) (sym c.sound_by.ensures) (sound-tells c.args.t.now) }
