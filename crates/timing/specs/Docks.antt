-- A dock: the machine as a whole with its tasks by their standings, its calls check for check those of the machine (document 01, 'The machine').
-- It stands between the rules and the machine's words: a means of proof, no definition to be believed.
use Rattle.std.specs.Prelude.{ℕ, cond, List, [], ◌∷◌, get_or, set, Some, None, Ok, Err}
use Rattle.std.proofs.Math.Option.{Option, none, some}
use Rattle.model.specs.Clock.{elapsed, Instant, early, due, missed, judged, fits}
use Rattle.model.specs.Modules.{Module}
use Rattle.timing.specs.Rules.{Standing, idle, ready, running, done, Store, sensed}
use Rattle.timing.specs.Calls.{Ask, tick, next, finish, Reply, waits, reacted, refused, fell, given, taken, lowest, start_mode, reading_types, result_types, beginning}
use Rattle.timing.specs.Code.{begins_of}
use Rattle.machine.specs.declared.Reaction.{Reaction}
use Rattle.machine.specs.declared.Reaction.TheVariants.{Obeyed, Idle, Refused, Late, Fault}
use Rattle.machine.specs.Told.{refuse}
pub use Rattle.machine.specs.Asks.{Answer, ticking, turning, finishing}
use Rattle.machine.specs.Instructions as E
use Rattle.machine.specs.Instructions.{Res, ok, bad, Halt, Tally}
use Rattle.timing.specs.Reacts.{reacting}

-- ---- answers, and what they are in the rules' words

-- an answer as a reply of the rules; a fault other than 40 is none
abbrev pub reply_to : Answer → Option Reply
reply_to (ticking (Obeyed instructions)) = some reacted
reply_to (ticking Idle) = some waits
reply_to (ticking (Refused number)) = some (refused number)
reply_to (ticking (Late task)) = some (fell task)
reply_to (ticking (Fault number)) = none
reply_to (turning (Ok (Some task))) = some (given (some task))
reply_to (turning (Ok None)) = some (given none)
reply_to (turning (Err why)) = some (refused why.number)
reply_to (finishing (Ok _)) = some taken
reply_to (finishing (Err why)) = some (refused why.number)

-- the answer to a fault
abbrev pub answer_to : E.Fault → Reaction
answer_to (E.late task) = Late task
answer_to E.wild = Fault 41
answer_to E.astray = Fault 42
answer_to E.clash = Fault 43

-- a call's refusal with a number
abbrev pub refusal : Ask → ℕ → Answer
refusal (tick count types words) number = ticking (Refused number)
refusal next number = turning (refuse number)
refusal (finish task types words) number = finishing (refuse number)

-- ---- a dock

-- a dock that obeys the code over the rules' own store
pub record Dock : Type 0 where
  pub clock : ℕ
  pub remaining : ℕ
  pub mode : ℕ
  pub pc : ℕ
  pub store : Store
  pub stopped : Option E.Fault

-- an answer and the dock after it
pub record Told : Type 0 where
  pub answer : Answer
  pub dock : Dock

-- an answer that changes nothing
abbrev pub tells : Dock → Answer → Told
tells d answer = record { answer = answer; dock = d }

-- the dock stopped by a fault, all else as before
abbrev pub stopped_by : E.Fault → Dock → Dock
stopped_by fault d = record { clock = d.clock; remaining = d.remaining; mode = d.mode; pc = d.pc; store = d.store; stopped = some fault }

-- what a reaction came to
abbrev pub came_to : Dock → ℕ → Tally → Res (Halt Store) → Told
came_to d count tally (ok halt) =
    record {
      answer = ticking (Obeyed tally.steps);
      dock = record { clock = count; remaining = halt.future.delay; mode = halt.mode; pc = halt.future.pc; store = halt.store; stopped = none };
    }
came_to d count tally (bad fault) = record { answer = ticking (answer_to fault); dock = stopped_by fault d }

-- the dock with other standings of its tasks
abbrev pub with_tasks : Dock → List Standing → Dock
with_tasks d tasks =
    record { clock = d.clock; remaining = d.remaining; mode = d.mode; pc = d.pc; store = record { ports = d.store.ports; tasks = tasks }; stopped = d.stopped }

module _ (M : Module) where
  -- sensors take the host's readings, then one reaction
  abbrev pub reacted_at : Dock → ℕ → List ℕ → Told
  reacted_at d count words =
      let run = reacting M d.mode d.pc (sensed M words d.store) in
      came_to d count run.tally run.res

  -- a tick, by the clock
  abbrev pub by_instant : Dock → ℕ → List ℕ → Instant → Told
  by_instant d count words (early left) =
      record { answer = ticking Idle; dock = record { clock = count; remaining = left; mode = d.mode; pc = d.pc; store = d.store; stopped = none } }
  by_instant d count words due = reacted_at d count words
  by_instant d count words missed = tells d (ticking (Refused 33))

  -- next: the task handed out, or none
  abbrev pub handed_out : Dock → Option ℕ → Told
  handed_out d none = tells d (turning (Ok None))
  handed_out d (some task) = record { answer = turning (Ok (Some task)); dock = with_tasks d (set d.store.tasks task running) }

  -- finish, by the task's standing
  abbrev pub finished_by : Dock → ℕ → List ℕ → List ℕ → Standing → Told
  finished_by d task types words idle = tells d (finishing (refuse 34))
  finished_by d task types words ready = tells d (finishing (refuse 34))
  finished_by d task types words running =
      cond (fits (result_types M task) types words) (record { answer = finishing (Ok tt); dock = with_tasks d (set d.store.tasks task (done words)) }) (tells d (finishing (refuse 35)))
  finished_by d task types words (done results) = tells d (finishing (refuse 34))

  -- a call, by whether the dock is stopped
  abbrev pub answered : Ask → Dock → Option E.Fault → Told
  answered a d (some fault) = tells d (refusal a 31)
  answered (tick count types words) d none =
      let served = by_instant d count words (judged (elapsed d.clock count) d.remaining) in
      cond (fits (reading_types M) types words) served (tells d (ticking (Refused 32)))
  answered next d none = handed_out d (lowest 0 d.store.tasks)
  answered (finish task types words) d none = finished_by d task types words (get_or d.store.tasks task idle)

  -- a call of the dock as it stands
  unfoldable pub asked : Ask → Dock → Told
  asked a d = answered a d d.stopped

  -- beginning values, the start mode, no task out, the count given and 0 remaining
  abbrev pub new_dock : ℕ → Dock
  new_dock count = record { clock = count; remaining = 0; mode = start_mode M; pc = get_or (begins_of M) (start_mode M) 0; store = beginning M; stopped = none }

  -- a start: the new dock and one reaction
  unfoldable pub started_dock : ℕ → List ℕ → Told
  started_dock count words = reacted_at (new_dock count) count words

  -- a history of calls: all that is answered
  abbrev pub answers : List Ask → Dock → List Answer
  answers [] d = []
  answers (a ∷ rest) d = (asked a d).answer ∷ answers rest (asked a d).dock

  -- the dock that a history leaves
  abbrev pub leaves : List Ask → Dock → Dock
  leaves [] d = d
  leaves (a ∷ rest) d = leaves rest (asked a d).dock
