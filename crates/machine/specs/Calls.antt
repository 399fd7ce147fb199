-- The calls of a machine: tick, next task, finish and look (document 01, 'The machine').
use Rattle.std.specs.Prelude.{ℕ, ◌*◌, Bool, true, cond, ◌&&◌, not, List, [], ltb, Some, None, Ok}
use Rattle.std.proofs.Math.Option.{Option, none, some}
use Rattle.model.specs.Rooms.{port_room, task_room}
use Rattle.model.specs.Clock.{elapsed, Instant, early, due, missed, judged, fits}
use Rattle.model.specs.Modules.{place}
use Rattle.machine.specs.declared.Reaction.{Reaction}
use Rattle.machine.specs.declared.Reaction.TheVariants.{Obeyed, Idle, Refused, Late, Fault}
use Rattle.machine.specs.Told.{Turn, Finishing, refuse}
use Rattle.machine.specs.Words.{has, joined, parted, lowest_in, count_in}
use Rattle.machine.specs.Boards.{Board}
use Rattle.machine.specs.Instructions as E
use Rattle.machine.specs.Instructions.{Res, ok, bad, Halt, Run, Tally}
use Rattle.machine.specs.Store.{Store, part, lot_of, reaction}

-- Everything that look shows: the last accepted count, what remains, the mode, where the next reaction begins, the ports, the tasks out,
-- waiting and finished, results aside (of no meaning where the task is not finished); whether the machine is stopped, by which fault, and which task was late.
pub record State : Type 0 where
  pub clock : ℕ
  pub remaining : ℕ
  pub mode : ℕ
  pub pc : ℕ
  pub store : Store
  pub aside : List ℕ
  pub stopped : Bool
  pub fault : ℕ
  pub late : ℕ

-- the answer to start or tick, and the machine after it
pub record Ticked : Type 0 where
  pub answer : Reaction
  pub state : State

-- the answer to next, and the machine after it
pub record Handed : Type 0 where
  pub answer : Turn
  pub state : State

-- the answer to finish, and the machine after it
pub record Finished : Type 0 where
  pub answer : Finishing
  pub state : State

-- ---- faults stop the machine, all else as before the call

-- the machine stopped by a fault, all else as before
abbrev pub stopped_by : ℕ → ℕ → State → State
stopped_by fault task m =
    record {
      clock = m.clock;
      remaining = m.remaining;
      mode = m.mode;
      pc = m.pc;
      store = m.store;
      aside = m.aside;
      stopped = true;
      fault = fault;
      late = task;
    }

-- what a fault answers: 40 with the late task, 41, 42, 43
abbrev pub faulted : E.Fault → State → Ticked
faulted (E.late task) m = record { answer = Late task; state = stopped_by 40 task m }
faulted E.wild m = record { answer = Fault 41; state = stopped_by 41 0 m }
faulted E.astray m = record { answer = Fault 42; state = stopped_by 42 0 m }
faulted E.clash m = record { answer = Fault 43; state = stopped_by 43 0 m }

-- what a reaction came to: the new state, or a fault
abbrev pub came_to : State → ℕ → Tally → Res (Halt Store) → Ticked
came_to m count tally (ok halt) =
    record {
      answer = Obeyed tally.steps;
      state = record {
        clock = count;
        remaining = halt.future.delay;
        mode = halt.mode;
        pc = halt.future.pc;
        store = halt.store;
        aside = m.aside;
        stopped = m.stopped;
        fault = m.fault;
        late = m.late;
      };
    }
came_to m count tally (bad fault) = faulted fault m

-- sensors take the host's readings
abbrev pub sensed : List ℕ → Store → Store
sensed words s = record { ports = place 0 words s.ports; out = s.out; waiting = s.waiting; finished = s.finished }

-- a start or a due tick: sensors take the readings, then one reaction
unfoldable pub reacted : Board → State → ℕ → List ℕ → Ticked
reacted b m count words =
    let run = reaction b m.aside m.mode m.pc (sensed words m.store) in
    came_to m count run.tally run.res

-- the types of the sensors
abbrev pub reading_types : Board → List ℕ
reading_types b = part b.types 0 b.sensors

-- the types of a task's outputs
abbrev pub result_types : Board → ℕ → List ℕ
result_types b task = part b.types (lot_of b [] task).outputs (lot_of b [] task).results

-- ---- tick: 31 machine stopped; 32 readings of wrong count or type; 33 instant missed

-- an idle tick: count and what remains, nothing else
abbrev pub idled : State → ℕ → ℕ → State
idled m count left =
    record {
      clock = count;
      remaining = left;
      mode = m.mode;
      pc = m.pc;
      store = m.store;
      aside = m.aside;
      stopped = m.stopped;
      fault = m.fault;
      late = m.late;
    }

-- by the clock: idle, one reaction, or 33
abbrev pub by_instant : Board → State → ℕ → List ℕ → Instant → Ticked
by_instant b m count words (early left) = record { answer = Idle; state = idled m count left }
by_instant b m count words due = reacted b m count words
by_instant b m count words missed = record { answer = Refused 33; state = m }

-- a tick: 31, 32, then by the clock
unfoldable pub tick : Board → State → ℕ → List ℕ → List ℕ → Ticked
tick b m count types words =
    let served = by_instant b m count words (judged (elapsed m.clock count) m.remaining) in
    cond m.stopped (record { answer = Refused 31; state = m })
    (cond (fits (reading_types b) types words) served (record { answer = Refused 32; state = m }))

-- ---- next task: the lowest-numbered one released and not yet handed out, or none

-- the machine with other words for its tasks and other results aside
abbrev pub with_words : State → Store → List ℕ → State
with_words m store aside =
    record {
      clock = m.clock;
      remaining = m.remaining;
      mode = m.mode;
      pc = m.pc;
      store = store;
      aside = aside;
      stopped = m.stopped;
      fault = m.fault;
      late = m.late;
    }

-- the task handed out waits no more
abbrev pub handed_out : State → Option ℕ → Handed
handed_out m none = record { answer = Ok None; state = m }
handed_out m (some task) =
    record {
      answer = Ok (Some task);
      state = with_words m (record { ports = m.store.ports; out = m.store.out; waiting = parted m.store.waiting task; finished = m.store.finished }) m.aside;
    }

-- next: 31, the lowest task that waits, or none
unfoldable pub next_task : State → Handed
next_task m = cond m.stopped (record { answer = refuse 31; state = m }) (handed_out m (lowest_in m.store.waiting))

-- ---- finish stores results aside: 31; 34 task not handed out or already finished; 35 results of wrong count or type

-- whether a task is out, handed out and not finished
abbrev pub at_work : Store → ℕ → Bool
at_work s task = ltb task task_room && (has s.out task && (not (has s.waiting task) && not (has s.finished task)))

-- finish: 31, 34, 35, or the results go aside
unfoldable pub finish : Board → State → ℕ → List ℕ → List ℕ → Finished
finish b m task types words =
    let store : Store = record { ports = m.store.ports; out = m.store.out; waiting = m.store.waiting; finished = joined m.store.finished task } in
    let taken : Finished = record { answer = Ok tt; state = with_words m store (place (task * port_room) words m.aside) } in
    cond m.stopped (record { answer = refuse 31; state = m })
    (cond (at_work m.store task) (cond (fits (result_types b task) types words) taken (record { answer = refuse 35; state = m })) (record { answer = refuse 34; state = m }))

-- ---- look shows the whole machine; the tasks out are counted from the word

-- look: the whole machine
abbrev pub look : State → State
look m = m

-- how many tasks are out
abbrev pub tasks_out : State → ℕ
tasks_out m = count_in m.store.out
