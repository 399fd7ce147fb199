-- Nothing early: when an output, an actuator, an input and a sensor's port change, and to what; call by call.
use Rattle.std.specs.Prelude.{ℕ, ◌+◌, ◌≡◌, true, List, get_or}
use Rattle.model.specs.Modules.{Module}
use Rattle.timing.specs.Slots.{closing}
use Rattle.timing.specs.Rules.{idle, done, mode_at, outputs_of}
use Rattle.timing.specs.Accepted.{Accepted}
use Rattle.timing.specs.Calls.{Ask, reacted, View, ask}
use Rattle.timing.specs.Ticks.{next_time, Reacts}
use Rattle.timing.specs.Lates.{ending_next}
use Rattle.timing.specs.Orders.{among}
use Rattle.timing.specs.Changes.{tasks_of, targets_of, Fit}
use Rattle.timing.specs.PortsAfter.{Aimed}

module _ (M : Module) (W : Accepted M) (A : Aimed M) (v : View) (f : Fit M v.place.store) (a : Ask) where
  abbrev pub after : View
  after = (ask M a v).view

  abbrev pub word_after : ℕ → ℕ
  word_after i = get_or (ask M a v).view.place.store.ports i 0

  -- An output port changes only at an instant at which a slot of its task ends, to the results finished in that slot.
  pub record HandsOver (task n : ℕ) : Type 0 where
    pub reacts : (ask M a v).reply ≡ reacted
    pub ends : among task (tasks_of (ending_next M v)) ≡ true
    pub results : List ℕ
    pub finished : get_or v.place.store.tasks task idle ≡ done results
    pub holds : word_after (outputs_of M task + n) ≡ get_or results n 0

  -- An actuator changes only at an instant of one of its updates.
  pub record Updated (i : ℕ) : Type 0 where
    pub reacts : (ask M a v).reply ≡ reacted
    pub ends : among i (targets_of (closing (mode_at M v.place.mode).period (next_time M v) (mode_at M v.place.mode).updates)) ≡ true

  -- An input changes only at a release of its task.
  pub record Begun (task : ℕ) : Type 0 where
    pub reacts : (ask M a v).reply ≡ reacted
    pub begins : among task after.place.released ≡ true

  -- A sensor's port changes only at a due tick, to the host's reading.
  pub record Read (i : ℕ) : Type 0 where
    pub reacts : (ask M a v).reply ≡ reacted
    pub tick : Reacts M a v after
    pub holds : word_after i ≡ get_or tick.words i 0
