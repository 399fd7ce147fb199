-- What holds of an accepted module between calls, by the rules alone: a known mode, a time within its period, and no task out but those with a slot in force.
-- So whatever is released is not out: fault 43 has no cause in the rules.
use Rattle.std.specs.Prelude.{ℕ, ◌<◌, List, length}
use Rattle.model.specs.Modules.{Module}
use Rattle.timing.specs.Rules.{Place, mode_at, next_instant}
use Rattle.timing.specs.Accepted.{Accepted}
use Rattle.timing.specs.Released.{beginning_there, updated_at, Came}
use Rattle.timing.specs.Tasks.{Free}
use Rattle.timing.specs.Outs.{Quiet}

-- what every call keeps
pub record Held (M : Module) (at : Place) : Type 0 where
  pub known : at.mode < length M.modes
  pub before : at.time < (mode_at M at.mode).period
  pub quiet : Quiet M at.mode at.time at.store

module _ (M : Module) (W : Accepted M) where
  module _ (at : Place) (H : Held M at) where
    abbrev pub k : ℕ
    k = at.mode

    abbrev pub t : ℕ
    t = next_instant (mode_at M at.mode) at.time

    -- An instant that comes about: what it releases was not out, and the place that is entered holds.
    pub record Next (readings : List ℕ) (w : Place) : Type 0 where
      pub came : Came M k t readings at.store w
      pub free : Free (beginning_there M w) (updated_at M k t came.ended)
      pub held : Held M w
