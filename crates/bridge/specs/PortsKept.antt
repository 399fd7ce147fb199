-- Nothing early (document 01, 'What time does'): when a port of the machine changes, and to what.
use Rattle.std.specs.Prelude.{ℕ, ◌+◌, ◌*◌, ◌<◌, ◌≡◌, ◌≢◌, ◌⊎◌, Bool, cond, List, get_or}
use Rattle.std.proofs.Math.Path.{refl}
use Rattle.std.proofs.Common.{sym, ◌∙◌, ap, subst, inl, inr}
use Rattle.std.proofs.Math.Bool.{true, false}
use Rattle.std.proofs.Math.Option.{Option, none, some}
use Rattle.model.specs.Clock.{Instant, early, due, missed, judged, elapsed, fits}
use Rattle.model.specs.Rooms.{port_room}
use Rattle.model.specs.Modules.{Module, place}
use Rattle.timing.specs.Slots.{closing}
use Rattle.timing.specs.Rules.{Standing, idle, done, mode_at, outputs_of}
use Rattle.timing.specs.Calls as C
use Rattle.timing.specs.Calls.{Ask, reacted, View, ask}
use Rattle.timing.specs.Accepted.{Accepted}
use Rattle.timing.specs.Ticks.{next_time}
use Rattle.timing.specs.Lates.{ending_next}
use Rattle.timing.specs.Orders.{among}
use Rattle.timing.specs.Changes.{tasks_of}
use Rattle.timing.specs.PortLaws.{SensorPort, ActuatorPort, InputPort, output_count}
use Rattle.timing.specs.PortsAfter.{Aimed}
use Rattle.timing.specs.NothingEarly as N
use Rattle.timing.proofs.NothingEarly as NLaws
use Rattle.timing.proofs.NothingEarly.{fit-history}
use Rattle.timing.specs.Docks.{ticking, reply_to}
use Rattle.machine.specs.declared.Reaction.TheVariants.{Obeyed, Refused}
use Rattle.machine.specs.Boards.{Board}
use Rattle.machine.specs.Instructions as E
use Rattle.machine.specs.Instructions.{Res, ok, bad, Halt, Tally}
use Rattle.machine.specs.Words.{lowest_in, joined}
use Rattle.machine.specs.Store.{Store, reaction}
use Rattle.machine.specs.Calls as K
use Rattle.machine.specs.Calls.{State, Ticked, Finished, faulted, came_to, sensed, by_instant, reading_types, result_types, handed_out, at_work}
use Rattle.bridge.specs.Boards.{board}
use Rattle.bridge.specs.Docked.{asks, dock_of}
use Rattle.bridge.specs.Faithful.{Started}
use Rattle.bridge.specs.Beside.{Beside}
use Rattle.bridge.specs.Sources.{Sourced, Set, actuator-updated}
use Rattle.bridge.specs.Promises.{word_in, standing_in, machine_at, view_at}

-- ---- between due ticks

-- ports, tasks out, mode and the place of the code are as they were
pub record Resting (m after : State) : Type 0 where
  pub same-ports : after.store.ports ≡ m.store.ports
  pub same_out : after.store.out ≡ m.store.out
  pub same-mode : after.mode ≡ m.mode
  pub same-pc : after.pc ≡ m.pc

-- ---- at a due tick
module _ (M : Module) (W : Accepted M) (A : Aimed M) (count : ℕ) (types₀ words₀ : List ℕ) (S : Started M W count types₀ words₀) (before : List Ask) (a : Ask) where
  -- the machine behind one call more
  abbrev pub machine_then : State
  machine_then = (asks M a (machine_at M W count types₀ words₀ S before)).state

  abbrev pub now : State
  now = machine_at M W count types₀ words₀ S before

  abbrev pub rules : View
  rules = view_at M W count types₀ words₀ S before

  abbrev pub word_before : ℕ → ℕ
  word_before i = word_in M now i

  abbrev pub word_after : ℕ → ℕ
  word_after i = word_in M machine_then i

  -- An output changes only at an instant at which a slot of its task ends, to the results that were finished in that slot.
  pub record Delivered (task n : ℕ) : Type 0 where
    pub reacts : reply_to (asks M a now).answer ≡ some reacted
    pub ends : among task (tasks_of (ending_next M rules)) ≡ true
    pub results : List ℕ
    pub finished : standing_in M now task ≡ done results
    pub holds : word_after (outputs_of M task + n) ≡ get_or results n 0

  -- An actuator changes only at an instant of one of its updates, to the word of that update's source.
  pub record Updated (i : ℕ) : Type 0 where
    pub reacts : reply_to (asks M a now).answer ≡ some reacted
    pub by : Set M (closing (mode_at M rules.place.mode).period (next_time M rules) (mode_at M rules.place.mode).updates) (dock_of M machine_then).store.ports i

  -- Inputs change only at a release of their task.
  pub record Supplied (task : ℕ) : Type 0 where
    pub reacts : reply_to (asks M a now).answer ≡ some reacted
    pub releases : among task (ask M a rules).view.place.released ≡ true

  -- Sensors take the readings of a due tick.
  pub record Sensed (i : ℕ) : Type 0 where
    pub reacts : reply_to (asks M a now).answer ≡ some reacted
    pub at : ℕ
    pub types : List ℕ
    pub words : List ℕ
    pub called : a ≡ C.tick at types words
    pub holds : word_after i ≡ get_or words i 0
