-- What each answer says of the machine after the call (document 01, 'The machine'): a refused call changes nothing; a fault leaves all as before the call
-- but that the machine is stopped, by which fault, and which task was late; an idle tick changes the count and what remains; finish changes no port.
use Rattle.std.specs.Prelude.{ℕ, ◌-◌, ◌*◌, ◌≡◌, Bool, cond, List, eqb, ltb, Ok, Err}
use Rattle.std.proofs.Math.Path.{refl}
use Rattle.std.proofs.Common.{ap, ltb-true}
use Rattle.std.proofs.Math.Bool.{true, false}
use Rattle.std.proofs.Math.Option.{Option, none, some}
use Rattle.model.specs.Rooms.{port_room}
use Rattle.model.specs.Modules.{place}
use Rattle.model.specs.Clock.{elapsed, early, due, missed, judged, fits}
use Rattle.machine.specs.declared.Reaction.TheVariants as R
use Rattle.machine.specs.Told.{Finishing, refuse}
use Rattle.machine.specs.Words.{joined, lowest_in}
use Rattle.machine.specs.Boards.{Board}
use Rattle.machine.specs.Instructions.{late, wild, astray, clash, Res, ok, bad, Halt, Tally}
use Rattle.machine.specs.Store.{Store, reaction}
use Rattle.machine.specs.Calls.{State, Finished, came_to, reacted, sensed, reading_types, result_types, by_instant, tick, with_words, handed_out, next_task, at_work, finish}
-- ---- tick

use Rattle.machine.specs.Leaves.{Leaves, LeavesFinish, LeavesNext}

came-leaves : (m : State) (count : ℕ) (tally : Tally) (res : Res (Halt Store)) → Leaves m count (came_to m count tally res).answer (came_to m count tally res).state
came-leaves m count tally (ok halt) = record { clock = refl; aside = refl; stopped = refl; fault = refl; late = refl }
came-leaves m count tally (bad (late task)) = refl
came-leaves m count tally (bad wild) = refl
came-leaves m count tally (bad astray) = refl
came-leaves m count tally (bad clash) = refl

module _ (b : Board) (m : State) (count : ℕ) (types words : List ℕ) where
  pub reacted-leaves : Leaves m count (reacted b m count words).answer (reacted b m count words).state
  unfolding reacted
  reacted-leaves = let run = reaction b m.aside m.mode m.pc (sensed words m.store) in came-leaves m count run.tally run.res

  -- what is early goes by the remaining time
  early-when : (test other : Bool) → ltb (elapsed m.clock count) m.remaining ≡ test
      → Leaves m count (by_instant b m count words (cond test (early (m.remaining - elapsed m.clock count)) (cond other due missed))).answer
      (by_instant b m count words (cond test (early (m.remaining - elapsed m.clock count)) (cond other due missed))).state
  early-when true other before = record { before = ltb-true _ _ before; same = refl }
  early-when false true before = reacted-leaves
  early-when false false before = refl

  pub tick-leaves : Leaves m count (tick b m count types words).answer (tick b m count types words).state
  unfolding tick
  tick-leaves = go m.stopped (fits (reading_types b) types words)
    where
      go : (stopped fit : Bool)
          → Leaves m count (cond stopped (record { answer = R.Refused 31; state = m }) (cond fit (by_instant b m count words (judged (elapsed m.clock count) m.remaining)) (record { answer = R.Refused 32; state = m }))).answer
          (cond stopped (record { answer = R.Refused 31; state = m }) (cond fit (by_instant b m count words (judged (elapsed m.clock count) m.remaining)) (record { answer = R.Refused 32; state = m }))).state
      go true fit = refl
      go false true = early-when (ltb (elapsed m.clock count) m.remaining) (eqb (elapsed m.clock count) m.remaining) refl
      go false false = refl

pub next-leaves : (m : State) → LeavesNext m (next_task m).answer (next_task m).state
unfolding next_task
next-leaves m = go m.stopped (lowest_in m.store.waiting)
  where
    go : (stopped : Bool) (found : Option ℕ) → LeavesNext m (cond stopped (record { answer = refuse 31; state = m }) (handed_out m found)).answer (cond stopped (record { answer = refuse 31; state = m }) (handed_out m found)).state
    go true found = refl
    go false none = refl
    go false (some task) = refl

module _ (b : Board) (m : State) (task : ℕ) (types words : List ℕ) where
  pub finish-leaves : LeavesFinish m task words (finish b m task types words).answer (finish b m task types words).state
  unfolding finish
  finish-leaves = go m.stopped (at_work m.store task) (fits (result_types b task) types words)
    where
      taken : Finished
      taken = record {
        answer = Ok tt;
        state = with_words m (record { ports = m.store.ports; out = m.store.out; waiting = m.store.waiting; finished = joined m.store.finished task }) (place (task * port_room) words m.aside);
      }

      by : Bool → Bool → Bool → Finished
      by stopped work fit =
          cond stopped (record { answer = refuse 31; state = m })
          (cond work (cond fit taken (record { answer = refuse 35; state = m })) (record { answer = refuse 34; state = m }))

      go : (stopped work fit : Bool) → LeavesFinish m task words (by stopped work fit).answer (by stopped work fit).state
      go true work fit = refl
      go false true true = refl
      go false true false = refl
      go false false fit = refl

  pub finish-keeps-ports : (finish b m task types words).state.store.ports ≡ m.store.ports
  finish-keeps-ports = go (finish b m task types words).answer finish-leaves
    where
      go : (answer : Finishing) → LeavesFinish m task words answer (finish b m task types words).state → (finish b m task types words).state.store.ports ≡ m.store.ports
      go (Ok _) left = ap (λ (after : State). after.store.ports) left
      go (Err why) left = ap (λ (after : State). after.store.ports) left
