-- What each answer says of the machine after the call (document 01, 'The machine'): a refused call changes nothing; a fault leaves all as before the call
-- but that the machine is stopped, by which fault, and which task was late; an idle tick changes the count and what remains; finish changes no port.
use Rattle.std.specs.Prelude.{ℕ, ◌-◌, ◌*◌, ◌<◌, ◌≡◌, List, Some, None, Ok, Err}
use Rattle.model.specs.Rooms.{port_room}
use Rattle.model.specs.Modules.{place}
use Rattle.model.specs.Clock.{elapsed}
use Rattle.machine.specs.declared.Reaction.{Reaction}
use Rattle.machine.specs.declared.Reaction.TheVariants as R
use Rattle.machine.specs.Told.{Turn, Finishing}
use Rattle.machine.specs.Words.{joined, parted}
use Rattle.machine.specs.Calls.{State, stopped_by, idled, with_words}

-- ---- tick

-- What a tick kept where it obeyed instructions: the count given is accepted, results aside stay.
pub record Went (m : State) (count : ℕ) (after : State) : Type 0 where
  pub clock : after.clock ≡ count
  pub aside : after.aside ≡ m.aside
  pub stopped : after.stopped ≡ m.stopped
  pub fault : after.fault ≡ m.fault
  pub late : after.late ≡ m.late

-- what an idle tick leaves
pub record Idled (m : State) (count : ℕ) (after : State) : Type 0 where
  pub before : elapsed m.clock count < m.remaining
  pub same : after ≡ idled m count (m.remaining - elapsed m.clock count)

-- what each answer to a tick leaves
abbrev pub Leaves : State → ℕ → Reaction → State → Type 0
Leaves m count (R.Obeyed steps) after = Went m count after
Leaves m count R.Idle after = Idled m count after
Leaves m count (R.Refused number) after = after ≡ m
Leaves m count (R.Late task) after = after ≡ stopped_by 40 task m
Leaves m count (R.Fault number) after = after ≡ stopped_by number 0 m

-- ---- next task

-- what each answer to next leaves
abbrev pub LeavesNext : State → Turn → State → Type 0
LeavesNext m (Ok (Some task)) after =
    after ≡ with_words m (record { ports = m.store.ports; out = m.store.out; waiting = parted m.store.waiting task; finished = m.store.finished }) m.aside
LeavesNext m (Ok None) after = after ≡ m
LeavesNext m (Err why) after = after ≡ m

-- ---- finish: the results stand aside, no port changes
-- what each answer to finish leaves
abbrev pub LeavesFinish : State → ℕ → List ℕ → Finishing → State → Type 0
LeavesFinish m task words (Ok _) after =
    after ≡ with_words m (record { ports = m.store.ports; out = m.store.out; waiting = m.store.waiting; finished = joined m.store.finished task }) (place (task * port_room) words m.aside)
LeavesFinish m task words (Err why) after = after ≡ m
