-- What the code's records stand for: the machine's state is where it stands, with its ports and the results aside.
use Rattle.std.specs.Prelude.{ℕ, ◌<◌, ◌≡◌, Bool, true, false, ◌&&◌, not, get_or, ltb, eqb, List, [], Ok, Err}
use Rattle.std.proofs.Math.Path.{refl, ap}
use Rattle.std.proofs.Common.{sym, ◌∙◌, ltb-true}
use Rattle.std.proofs.Math.Bool.{cond}
use Rattle.model.specs.Clock.{elapsed, Instant, early, due, missed, judged, fits}
use Rattle.machine.specs.declared.Reaction.{Reaction}
use Rattle.machine.specs.declared.Reaction.TheVariants as R
use Rattle.machine.specs.Told.{Turn, Finishing}
use Rattle.machine.specs.Boards.{Board}
use Rattle.machine.specs.Instructions.{late, wild, astray, clash, Res, ok, bad, Halt, Run}
use Rattle.machine.specs.Store.{Store, part, reaction}
use Rattle.machine.specs.Calls as C
use Rattle.machine.specs.Calls.{State, stopped_by, came_to, sensed, reacted, by_instant, tick, finish, at_work}
use Rattle.machine.proofs.CallLaws.{tick-by}
use Rattle.steps.specs.declared.Fault.TheVariants as F
use Rattle.steps.specs.declared.programs.Program.{Program}
use Rattle.steps.specs.declared.Fault.{Fault}
use Rattle.steps.specs.Steps.{Ending, number_of}
use Rattle.steps.specs.Rows.{board_by, reactive}
use Rattle.react.specs.Runs.{Shown, shown_res, shown}
use Rattle.calls.specs.declared.Standing.{Standing}

abbrev pub store_of : Standing → List ℕ → Store
store_of at ports = record { ports = ports; out = at.out; waiting = at.waiting; finished = at.finished }

abbrev pub state_of : Standing → List ℕ → List ℕ → State
state_of at ports aside =
    record {
      clock = at.clock;
      remaining = at.remaining;
      mode = at.mode;
      pc = at.pc;
      store = store_of at ports;
      aside = aside;
      stopped = at.stopped;
      fault = at.fault;
      late = at.late;
    }

-- what a tick reads of a table, as a board
abbrev pub board_at : Program → Board
board_at p = board_by p.instructions p.code.now p.drivers.now p.guards.now p.modes.now p.tasks.now p.types.now [] p.sensors 0

-- no task is out, and nothing remains
abbrev pub begun : ℕ → ℕ → ℕ → Standing
begun clock mode pc =
    record {
      clock = clock;
      remaining = 0;
      mode = mode;
      pc = pc;
      out = 0;
      waiting = 0;
      finished = 0;
      stopped = false;
      fault = 0;
      late = 0;
    }

-- what is answered of a fault, and the task that it names
abbrev pub answer_of : Fault → Reaction
answer_of (F.Late task) = R.Late task
answer_of F.Wild = R.Fault 41
answer_of F.Astray = R.Fault 42
answer_of F.Clash = R.Fault 43

abbrev pub late_of : Fault → ℕ
late_of (F.Late task) = task
late_of F.Wild = 0
late_of F.Astray = 0
late_of F.Clash = 0

-- stopped by a fault, all else as it was
abbrev pub stopped_at : Fault → Standing → Standing
stopped_at fault at =
    record {
      clock = at.clock;
      remaining = at.remaining;
      mode = at.mode;
      pc = at.pc;
      out = at.out;
      waiting = at.waiting;
      finished = at.finished;
      stopped = true;
      fault = number_of fault;
      late = late_of fault;
    }

-- ---- the same in cells that are lent: numbers (clock, remaining, mode, pc, late), marks (stopped, fault) and sets (out, waiting, finished)

-- a mark that is not 0
abbrev pub marked : List ℕ → Bool
marked marks = not (eqb (get_or marks 0 0) 0)

abbrev pub standing_in : List ℕ → List ℕ → List ℕ → Standing
standing_in numbers marks sets =
    record {
      clock = get_or numbers 0 0;
      remaining = get_or numbers 1 0;
      mode = get_or numbers 2 0;
      pc = get_or numbers 3 0;
      out = get_or sets 0 0;
      waiting = get_or sets 1 0;
      finished = get_or sets 2 0;
      stopped = marked marks;
      fault = get_or marks 1 0;
      late = get_or numbers 4 0;
    }

abbrev pub state_by : List ℕ → List ℕ → List ℕ → List ℕ → List ℕ → State
state_by numbers marks sets ports aside = state_of (standing_in numbers marks sets) ports aside

abbrev pub served : Reaction → State → C.Ticked
served answer state = record { answer = answer; state = state }

abbrev pub turned : Turn → State → C.Handed
turned answer state = record { answer = answer; state = state }

abbrev pub ended : Finishing → State → C.Finished
ended answer state = record { answer = answer; state = state }

-- ---- what a reaction's ending makes of a state

abbrev pub with_ports : State → List ℕ → State
with_ports m ports =
    record {
      clock = m.clock;
      remaining = m.remaining;
      mode = m.mode;
      pc = m.pc;
      store = record { ports = ports; out = m.store.out; waiting = m.store.waiting; finished = m.store.finished };
      aside = m.aside;
      stopped = m.stopped;
      fault = m.fault;
      late = m.late;
    }

abbrev pub closed_by : State → ℕ → ℕ → List ℕ → Ending → C.Ticked
closed_by m count steps ports (Ok halted) =
    record {
      answer = R.Obeyed steps;
      state = record {
        clock = count;
        remaining = halted.future.delay;
        mode = halted.mode;
        pc = halted.future.pc;
        store = record { ports = ports; out = halted.tasks.out; waiting = halted.tasks.waiting; finished = halted.tasks.finished };
        aside = m.aside;
        stopped = m.stopped;
        fault = m.fault;
        late = m.late;
      };
    }
closed_by m count steps ports (Err fault) = record { answer = answer_of fault; state = stopped_by (number_of fault) (late_of fault) (with_ports m ports) }

abbrev pub closed : State → ℕ → Shown → C.Ticked
closed m count s = closed_by m count s.steps s.ports s.ending

closes-run : (m : State) (count : ℕ) (run : Run Store) (res : Res (Halt Store)) → closed m count (shown_res m.store.ports run.tally.steps res) ≡ came_to m count run.tally res
closes-run m count run (ok halt) = refl
closes-run m count run (bad (late task)) = refl
closes-run m count run (bad wild) = refl
closes-run m count run (bad astray) = refl
closes-run m count run (bad clash) = refl

pub closes-reaction : (b : Board) (m : State) (count : ℕ) (words : List ℕ)
    → closed m count (shown m.store.ports (reaction b m.aside m.mode m.pc (sensed words m.store))) ≡ reacted b m count words
unfolding reacted
closes-reaction b m count words =
    let run = reaction b m.aside m.mode m.pc (sensed words m.store) in
    closes-run m count run run.res

-- a fault that is not of a late task names none, and is answered with its number
pub names-none : (fault : Fault) → ((task : ℕ) → fault ≡ F.Late task → ⊥) → late_of fault ≡ 0
names-none (F.Late task) other = absurd (other task refl)
names-none F.Wild other = refl
names-none F.Astray other = refl
names-none F.Clash other = refl

pub answers-number : (fault : Fault) → ((task : ℕ) → fault ≡ F.Late task → ⊥) → answer_of fault ≡ R.Fault (number_of fault)
answers-number (F.Late task) other = absurd (other task refl)
answers-number F.Wild other = refl
answers-number F.Astray other = refl
answers-number F.Clash other = refl

-- ---- a task at work has a number within the room
first_holds : (a b : Bool) → a && b ≡ true → a ≡ true
first_holds true b both = refl
first_holds false b both = both

pub work-within : (s : Store) (task : ℕ) → at_work s task ≡ true → task < 32
work-within s task work = ltb-true task 32 (first_holds (ltb task 32) _ work)

-- ---- a reaction reads neither types nor starts, nor the number of sensors, nor the start mode
module _ (instructions : ℕ) (code drivers guards modes tasks types starts : List ℕ) (sensors start : ℕ) (m : State) (count : ℕ) where
  pub reacted-alone : (words : List ℕ) → reacted (reactive instructions code drivers guards modes tasks) m count words ≡ reacted (board_by instructions code drivers guards modes tasks types starts sensors start) m count words
  unfolding reacted reaction
  reacted-alone words = refl

  pub tick-due : (kinds words : List ℕ) → m.stopped ≡ false → fits (part types 0 sensors) kinds words ≡ true → judged (elapsed m.clock count) m.remaining ≡ due
      → reacted (reactive instructions code drivers guards modes tasks) m count words ≡ tick (board_by instructions code drivers guards modes tasks types starts sensors start) m count kinds words
  tick-due kinds words live fit is-due =
      reacted-alone words ∙ sym (tick-by (board_by instructions code drivers guards modes tasks types starts sensors start) m count kinds words live fit due is-due)

  instant-alone : (words : List ℕ) (instant : Instant)
      → by_instant (board_by instructions code drivers guards modes tasks types [] sensors 0) m count words instant ≡ by_instant (board_by instructions code drivers guards modes tasks types starts sensors start) m count words instant
  instant-alone words (early left) = refl
  instant-alone words due = unfold reacted reaction in refl
  instant-alone words missed = refl

  pub tick-alone : (kinds words : List ℕ) → tick (board_by instructions code drivers guards modes tasks types [] sensors 0) m count kinds words ≡ tick (board_by instructions code drivers guards modes tasks types starts sensors start) m count kinds words
  unfolding tick
  tick-alone kinds words =
      ap (λ (served : C.Ticked). cond m.stopped (record { answer = R.Refused 31; state = m }) (cond (fits (part types 0 sensors) kinds words) served (record { answer = R.Refused 32; state = m })))
      (instant-alone words (judged (elapsed m.clock count) m.remaining))

  pub finish-alone : (kinds words : List ℕ) → finish (board_by 0 [] [] [] [] tasks types [] 0 0) m count kinds words ≡ finish (board_by instructions code drivers guards modes tasks types starts sensors start) m count kinds words
  unfolding finish
  finish-alone kinds words = refl
