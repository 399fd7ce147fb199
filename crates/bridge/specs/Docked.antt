-- The machine's calls on words are a dock's calls on standings, answer for answer.
use Rattle.std.specs.Prelude.{ℕ, zero, suc, ◌+◌, ◌-◌, ◌*◌, ◌≤◌, ◌<◌, ◌≡◌, Bool, ◌&&◌, not, length, get_or, set, take, drop, eqb, ltb}
use Rattle.std.proofs.Common.{arith, sym, ◌∙◌, ap₂, lt-ltb}
use Rattle.std.proofs.Math.Path.{refl, ap, subst}
use Rattle.std.proofs.Math.Bool.{true, false, cond}
use Rattle.std.proofs.Math.Option.{Option, none, some}
use mathlib.Core.List.{List, [], ◌∷◌, ◌++◌, map}
use Rattle.model.specs.Rooms.{port_room, task_room}
use Rattle.model.specs.Clock.{elapsed, Instant, early, due, missed, judged, fits}
use Rattle.model.specs.Modules.{Module, Output, no_task, place}
use Rattle.timing.specs.Rules as R
use Rattle.timing.specs.Rules.{Standing, idle, ready, running, done}
use Rattle.timing.specs.Calls as C
use Rattle.timing.specs.Calls.{Ask, lowest}
use Rattle.timing.specs.Code.{code_of, begins_of}
use Rattle.timing.specs.Accepted.{Accepted, ports}
use Rattle.machine.specs.declared.Reaction.TheVariants.{Obeyed, Idle, Refused, Late, Fault}
use Rattle.machine.specs.Words.{has, joined, parted, lowest_in}
use Rattle.machine.specs.Boards.{Board, aside_room}
use Rattle.machine.specs.Instructions as E
use Rattle.machine.specs.Instructions.{Res, ok, bad, Halt, Run, Tally, no_tally, exec}
use Rattle.machine.specs.Store.{Store, reaction, store_ops}
use Rattle.machine.specs.Asks as A
pub use Rattle.machine.specs.Asks.{Asked}
use Rattle.machine.specs.Calls as K
use Rattle.machine.specs.Calls.{State, Ticked, Handed, Finished, stopped_by, faulted, came_to, sensed, reacted, reading_types, result_types, idled, by_instant, tick, handed_out, next_task, with_words, at_work, finish}
use Rattle.timing.specs.Stands.{stand_ops}
use Rattle.timing.specs.Reacts.{reacting}
use Rattle.timing.specs.Docks as D
use Rattle.timing.specs.Docks.{Answer, ticking, turning, finishing, Dock, Told, asked, answered}
use Rattle.bridge.specs.Boards.{board, board-code, board-readings, board-results}
use Rattle.bridge.specs.Carried.{Ends, Same}
use Rattle.bridge.specs.Views.{take-place, stand_of, Fitting, tasks, results_of, row_of, stand_at, standings, view, Neat, stands, handed-tasks, handed-neat, finished-neat}
use Rattle.bridge.specs.Kept.{Good}
use Rattle.bridge.specs.Asides.{place-length, fits-many, finished-tasks, lowest-same, lowest-waits}

-- the fault of a stopped machine, by its number and its late task
abbrev pub fault_by : ℕ → ℕ → E.Fault
fault_by number task = cond (eqb number 40) (E.late task) (cond (eqb number 41) E.wild (cond (eqb number 42) E.astray E.clash))

abbrev pub stop_by : Bool → ℕ → ℕ → Option E.Fault
stop_by false number task = none
stop_by true number task = some (fault_by number task)

module _ (M : Module) where
  -- a call of a machine on the module's board
  abbrev pub asks : Ask → State → Asked
  asks a m = A.asks (board M) a m

  -- a machine seen as a dock
  abbrev pub dock_of : State → Dock
  dock_of m =
      record { clock = m.clock; remaining = m.remaining; mode = m.mode; pc = m.pc; store = view M m.aside m.store; stopped = stop_by m.stopped m.fault m.late }

  pub record Held (m : State) : Type 0 where
    pub neat : Neat M m.store.out m.store.waiting m.store.finished
    pub room : length m.aside ≡ aside_room

  -- the machine's answer and the dock's, and the machine stays held
  pub record Agrees (a : Asked) (b : Told) : Type 0 where
    pub says : a.answer ≡ b.answer
    pub shows : dock_of a.state ≡ b.dock
    pub held : Held a.state
