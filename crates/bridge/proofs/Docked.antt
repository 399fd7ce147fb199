-- The machine's calls on words are a dock's calls on standings, answer for answer.
use Rattle.std.specs.Prelude.{ℕ, zero, suc, ◌+◌, ◌-◌, ◌*◌, ◌≤◌, ◌<◌, ◌≡◌, Bool, ◌&&◌, not, length, get_or, set, take, drop, eqb, ltb, None, Ok}
use Rattle.std.proofs.Common.{arith, sym, ◌∙◌, ap₂, lt-ltb}
use Rattle.std.proofs.Math.Path.{refl, ap, subst}
use Rattle.std.proofs.Math.Bool.{true, false, cond}
use Rattle.std.proofs.Math.Option.{Option, none, some}
use mathlib.Core.List.{List, [], ◌∷◌, ◌++◌, map}
use Rattle.model.specs.Rooms.{port_room, task_room}
use Rattle.model.specs.Clock.{elapsed, Instant, early, due, missed, judged, fits}
use Rattle.model.specs.Modules.{Module, Output, no_task, place}
use Rattle.timing.specs.Rules as R
use Rattle.timing.specs.Rules.{Standing, idle, ready, running, done}
use Rattle.timing.specs.Calls as C
use Rattle.timing.specs.Calls.{Ask, lowest}
use Rattle.timing.specs.Code.{code_of, begins_of}
use Rattle.timing.specs.Accepted.{Accepted, ports}
use Rattle.machine.specs.declared.Reaction.TheVariants.{Obeyed, Idle, Refused, Late, Fault}
use Rattle.machine.specs.Told.{refuse}
use Rattle.machine.specs.Words.{has, joined, parted, lowest_in}
use Rattle.machine.specs.Boards.{Board, aside_room}
use Rattle.machine.specs.Instructions as E
use Rattle.machine.specs.Instructions.{Res, ok, bad, Halt, Run, Tally, no_tally, exec}
use Rattle.machine.specs.Store.{Store, reaction, store_ops}
use Rattle.machine.specs.Asks as A
pub use Rattle.machine.specs.Asks.{Asked}
use Rattle.machine.specs.Calls as K
use Rattle.machine.specs.Calls.{State, Ticked, Handed, Finished, stopped_by, faulted, came_to, sensed, reacted, reading_types, result_types, idled, by_instant, tick, handed_out, next_task, with_words, at_work, finish}
use Rattle.timing.specs.Stands.{stand_ops}
use Rattle.timing.specs.Reacts.{reacting}
use Rattle.timing.specs.Docks as D
use Rattle.timing.specs.Docks.{Answer, ticking, turning, finishing, Dock, Told, asked, answered}
use Rattle.bridge.specs.Boards.{board, board-code, board-readings, board-results}
use Rattle.bridge.specs.Carried.{Ends, Same}
use Rattle.bridge.specs.Views.{take-place, stand_of, Fitting, tasks, results_of, row_of, stand_at, standings, view, Neat, stands, handed-tasks, handed-neat, finished-neat}
use Rattle.bridge.specs.Kept.{Good}
use Rattle.bridge.proofs.Kept.{reacts-same}
use Rattle.bridge.specs.Asides.{place-length, fits-many, finished-tasks, lowest-same, lowest-waits}
use Rattle.bridge.specs.Docked.{Agrees, Held, asks, dock_of, fault_by, stop_by}

module _ (M : Module) where
  either : (y : Bool) (a c : Asked) (b d : Told) → (Agrees M) a b → (Agrees M) c d → (Agrees M) (cond y a c) (cond y b d)
  either true a c b d h k = h
  either false a c b d h k = k

and-false : (b : Bool) → (b && false) ≡ false
and-false true = refl
and-false false = refl

module _ (M : Module) (W : Accepted M) (m : State) (H : Held M m) where
  still : (x y : Answer) → x ≡ y → Agrees M (record { answer = x; state = m }) (D.tells (dock_of M m) y)
  still x y e = record { says = e; shows = refl; held = H }

  -- ---- a reaction
  abbrev as_ticked : Ticked → Asked
  as_ticked t = record { answer = ticking t.answer; state = t.state }

  module _ (on : m.stopped ≡ false) where
    going : stop_by m.stopped m.fault m.late ≡ none
    going = ap (λ (y : Bool). stop_by y m.fault m.late) on

    came : (count : ℕ) (tally other : Tally) (x : Res (Halt Store)) (y : Res (Halt R.Store)) → tally ≡ other → Ends (view M m.aside) (Good M W m.aside) x y
        → Agrees M (as_ticked (came_to m count tally x)) (D.came_to (dock_of M m) count other y)
    came count tally other (ok w) (ok z) t e =
        record {
          says = ap (λ (n : Tally). ticking (Obeyed n.steps)) t;
          shows = ap₂ (λ (h : Halt R.Store) (o : Option E.Fault). record { clock = count; remaining = h.future.delay; mode = h.mode; pc = h.future.pc; store = h.store; stopped = o }) (sym e.0) going;
          held = record { neat = e.1; room = H.room };
        }
    came count tally other (ok w) (bad y) t e = absurd e
    came count tally other (bad x) (ok z) t e = absurd e
    came count tally other (bad x) (bad y) t e = rw e (by y)
      where
        by : (f : E.Fault) → Agrees M (as_ticked (faulted f m)) (D.came_to (dock_of M m) count other (bad f))
        by (E.late task) = record { says = refl; shows = refl; held = record { neat = H.neat; room = H.room } }
        by E.wild = record { says = refl; shows = refl; held = record { neat = H.neat; room = H.room } }
        by E.astray = record { says = refl; shows = refl; held = record { neat = H.neat; room = H.room } }
        by E.clash = record { says = refl; shows = refl; held = record { neat = H.neat; room = H.room } }

    sensed-same : (words : List ℕ) → view M m.aside (sensed words m.store) ≡ R.sensed M words (view M m.aside m.store)
    sensed-same words = ap (λ (l : List ℕ). record { ports = l; tasks = standings M m.aside m.store.out m.store.waiting m.store.finished }) (take-place (ports M) 0 words m.store.ports)

    pub reacted-same : (count : ℕ) (words : List ℕ) → Agrees M (as_ticked (reacted (board M) m count words)) (D.reacted_at M (dock_of M m) count words)
    unfolding reacted reaction
    reacted-same count words =
        let s = reacts-same M W m.aside (length (code_of M)) m.pc m.mode none no_tally (sensed words m.store) H.neat in
        let x = exec (store_ops (board M) m.aside) (board M).begins (code_of M) (length (code_of M)) (drop m.pc (code_of M)) m.mode none no_tally (sensed words m.store) in
        let y = exec (stand_ops M) (begins_of M) (code_of M) (length (code_of M)) (drop m.pc (code_of M)) m.mode none no_tally (view M m.aside (sensed words m.store)) in
        rw (board-code M, ← sensed-same words) (came count x.tally y.tally x.res y.res s.tally s.ends)

    abbrev refused_tick : ℕ → Ticked
    refused_tick number = record { answer = Refused number; state = m }

    tick-open : (count : ℕ) (types words : List ℕ)
        → tick (board M) m count types words ≡ cond (fits (C.reading_types M) types words) (by_instant (board M) m count words (judged (elapsed m.clock count) m.remaining)) (refused_tick 32)
    unfolding tick
    tick-open count types words =
        let served = by_instant (board M) m count words (judged (elapsed m.clock count) m.remaining) in
        ap (λ (y : Bool). cond y (refused_tick 31) (cond (fits (reading_types (board M)) types words) served (refused_tick 32))) on
        ∙ ap (λ (l : List ℕ). cond (fits l types words) served (refused_tick 32)) (board-readings M)

    served : (count : ℕ) (words : List ℕ) (i : Instant) → Agrees M (as_ticked (by_instant (board M) m count words i)) (D.by_instant M (dock_of M m) count words i)
    served count words (early left) =
        record {
          says = refl;
          shows = ap (λ (o : Option E.Fault). record { clock = count; remaining = left; mode = m.mode; pc = m.pc; store = view M m.aside m.store; stopped = o }) going;
          held = record { neat = H.neat; room = H.room };
        }
    served count words due = reacted-same count words
    served count words missed = still (ticking (Refused 33)) (ticking (Refused 33)) refl

    tick-on : (count : ℕ) (types words : List ℕ) → Agrees M (asks M (C.tick count types words) m) (answered M (C.tick count types words) (dock_of M m) none)
    tick-on count types words =
        let at = judged (elapsed m.clock count) m.remaining in
        subst (λ (t : Ticked). Agrees M (as_ticked t) (answered M (C.tick count types words) (dock_of M m) none)) (sym (tick-open count types words)) (go at (fits (C.reading_types M) types words))
      where
        go : (i : Instant) (y : Bool) → Agrees M (as_ticked (cond y (by_instant (board M) m count words i) (refused_tick 32))) (cond y (D.by_instant M (dock_of M m) count words i) (D.tells (dock_of M m) (ticking (Refused 32))))
        go i true = served count words i
        go i false = still (ticking (Refused 32)) (ticking (Refused 32)) refl

    -- ---- next task
    abbrev as_handed : Handed → Asked
    as_handed h = record { answer = turning h.answer; state = h.state }

    next-open : next_task m ≡ handed_out m (lowest_in m.store.waiting)
    unfolding next_task
    next-open = ap (λ (y : Bool). cond y (record { answer = refuse 31; state = m }) (handed_out m (lowest_in m.store.waiting))) on

    next-on : Agrees M (asks M C.next m) (answered M C.next (dock_of M m) none)
    next-on =
        let same = lowest-same M W.few-tasks m.aside m.store.out m.store.waiting m.store.finished H.neat in
        subst (λ (o : Option ℕ). Agrees M (asks M C.next m) (D.handed_out M (dock_of M m) o)) (sym same)
        (subst (λ (h : Handed). Agrees M (as_handed h) (D.handed_out M (dock_of M m) (lowest_in m.store.waiting))) (sym next-open) (go (lowest_in m.store.waiting) refl))
      where
        go : (o : Option ℕ) → lowest_in m.store.waiting ≡ o → Agrees M (record { answer = turning (handed_out m o).answer; state = (handed_out m o).state }) (D.handed_out M (dock_of M m) o)
        go none e = still (turning (Ok None)) (turning (Ok None)) refl
        go (some task) e =
            let (o, w, f, l) = lowest-waits M W.few-tasks m.aside m.store.out m.store.waiting m.store.finished H.neat task e in
            record {
              says = refl;
              shows = ap (λ (q : List Standing). record { clock = m.clock; remaining = m.remaining; mode = m.mode; pc = m.pc; store = record { ports = take (ports M) m.store.ports; tasks = q }; stopped = stop_by m.stopped m.fault m.late })
                  (sym (handed-tasks M m.aside m.store.out m.store.waiting m.store.finished task l W.few-tasks o f));
              held = record { neat = handed-neat M m.aside m.store.out m.store.waiting m.store.finished task l W.few-tasks H.neat o; room = H.room };
            }

    -- ---- finish
    module _ (task : ℕ) (types words : List ℕ) where
      abbrev taken : Finished
      taken =
          record {
            answer = Ok tt;
            state = with_words m (record { ports = m.store.ports; out = m.store.out; waiting = m.store.waiting; finished = joined m.store.finished task }) (place (task * port_room) words m.aside);
          }

      abbrev refused_with : ℕ → Finished
      refused_with number = record { answer = refuse number; state = m }

      abbrev as_finished : Finished → Asked
      as_finished x = record { answer = finishing x.answer; state = x.state }

      finishes : (x : Bool) → has m.store.out task ≡ x → (y : Bool) → has m.store.waiting task ≡ y → (z : Bool) → has m.store.finished task ≡ z
          → Agrees M (as_finished (cond (ltb task task_room && (x && (not y && not z))) (cond (fits (result_types (board M) task) types words) taken (refused_with 35)) (refused_with 34)))
          (D.finished_by M (dock_of M m) task types words (stand_of x y z (row_of M m.aside task)))
      finishes false o y w z f = rw (and-false (ltb task task_room)) (still (finishing (refuse 34)) (finishing (refuse 34)) refl)
      finishes true o true w z f = rw (and-false (ltb task task_room)) (still (finishing (refuse 34)) (finishing (refuse 34)) refl)
      finishes true o false w true f = rw (and-false (ltb task task_room)) (still (finishing (refuse 34)) (finishing (refuse 34)) refl)
      finishes true o false w false f =
          let l : task < tasks M = H.neat.within task o in
          let t = W.few-tasks in
          rw (lt-ltb task task_room (omega arith), board-results M task l) (by l (fits (C.result_types M task) types words) refl)
        where
          mapped : {A B : Type 0} (g : A → B) (list : List A) → length (map g list) ≡ length list
          mapped g [] = refl
          mapped g (a ∷ list) = ap suc (mapped g list)

          by : task < tasks M → (b : Bool) → fits (C.result_types M task) types words ≡ b
              → Agrees M (as_finished (cond b taken (refused_with 35))) (cond b (record { answer = finishing (Ok tt); dock = D.with_tasks (dock_of M m) (set (dock_of M m).store.tasks task (done words)) }) (D.tells (dock_of M m) (finishing (refuse 35))))
          by l false e = still (finishing (refuse 35)) (finishing (refuse 35)) refl
          by l true e =
              let many : length words ≡ results_of M task = fits-many (C.result_types M task) types words e ∙ mapped (λ (o : Output). o.type) (get_or M.tasks task no_task).outputs in
              record {
                says = refl;
                shows = ap (λ (q : List Standing). record { clock = m.clock; remaining = m.remaining; mode = m.mode; pc = m.pc; store = record { ports = take (ports M) m.store.ports; tasks = q }; stopped = stop_by m.stopped m.fault m.late })
                    (sym (finished-tasks M W m.aside H.room m.store.out m.store.waiting m.store.finished task l words many o w));
                held = record {
                  neat = finished-neat M m.aside m.store.out m.store.waiting m.store.finished task l W.few-tasks H.neat o w;
                  room = place-length (task * port_room) words m.aside ∙ H.room;
                };
              }

      finish-open : finish (board M) m task types words ≡ cond (at_work m.store task) (cond (fits (result_types (board M) task) types words) taken (refused_with 35)) (refused_with 34)
      unfolding finish
      finish-open = ap (λ (y : Bool). cond y (refused_with 31) (cond (at_work m.store task) (cond (fits (result_types (board M) task) types words) taken (refused_with 35)) (refused_with 34))) on

      finish-on : Agrees M (asks M (C.finish task types words) m) (answered M (C.finish task types words) (dock_of M m) none)
      finish-on =
          let same = stands M m.aside m.store.out m.store.waiting m.store.finished H.neat task in
          subst (λ (x : Standing). Agrees M (asks M (C.finish task types words) m) (D.finished_by M (dock_of M m) task types words x)) (sym same)
          (subst (λ (x : Finished). Agrees M (as_finished x) (D.finished_by M (dock_of M m) task types words (stand_at M m.aside m.store.out m.store.waiting m.store.finished task))) (sym finish-open)
          (finishes (has m.store.out task) refl (has m.store.waiting task) refl (has m.store.finished task) refl))

    call-on : (a : Ask) → Agrees M (asks M a m) (answered M a (dock_of M m) none)
    call-on (C.tick count types words) = tick-on count types words
    call-on C.next = next-on
    call-on (C.finish task types words) = finish-on task types words

  -- ---- a stopped machine

  abbrev tick_stop : Ticked
  tick_stop = record { answer = Refused 31; state = m }

  abbrev next_stop : Handed
  next_stop = record { answer = refuse 31; state = m }

  abbrev finish_stop : Finished
  finish_stop = record { answer = refuse 31; state = m }

  tick-shut : (count : ℕ) (types words : List ℕ) → m.stopped ≡ true → tick (board M) m count types words ≡ tick_stop
  unfolding tick
  tick-shut count types words e = ap (λ (y : Bool). cond y tick_stop (cond (fits (reading_types (board M)) types words) (by_instant (board M) m count words (judged (elapsed m.clock count) m.remaining)) (record { answer = Refused 32; state = m }))) e

  next-shut : m.stopped ≡ true → next_task m ≡ next_stop
  unfolding next_task
  next-shut e = ap (λ (y : Bool). cond y next_stop (handed_out m (lowest_in m.store.waiting))) e

  finish-shut : (task : ℕ) (types words : List ℕ) → m.stopped ≡ true → finish (board M) m task types words ≡ finish_stop
  unfolding finish
  finish-shut task types words e =
      let store : Store = record { ports = m.store.ports; out = m.store.out; waiting = m.store.waiting; finished = joined m.store.finished task } in
      let taken : Finished = record { answer = Ok tt; state = with_words m store (place (task * port_room) words m.aside) } in
      ap (λ (y : Bool). cond y finish_stop (cond (at_work m.store task) (cond (fits (result_types (board M) task) types words) taken (record { answer = refuse 35; state = m })) (record { answer = refuse 34; state = m }))) e

  off : (a : Ask) (f : E.Fault) → m.stopped ≡ true → Agrees M (asks M a m) (answered M a (dock_of M m) (some f))
  off (C.tick count types words) f e =
      subst (λ (t : Ticked). Agrees M (record { answer = ticking t.answer; state = t.state }) (D.tells (dock_of M m) (ticking (Refused 31)))) (sym (tick-shut count types words e)) (still (ticking (Refused 31)) (ticking (Refused 31)) refl)
  off C.next f e =
      subst (λ (t : Handed). Agrees M (record { answer = turning t.answer; state = t.state }) (D.tells (dock_of M m) (turning (refuse 31)))) (sym (next-shut e)) (still (turning (refuse 31)) (turning (refuse 31)) refl)
  off (C.finish task types words) f e =
      subst (λ (t : Finished). Agrees M (record { answer = finishing t.answer; state = t.state }) (D.tells (dock_of M m) (finishing (refuse 31)))) (sym (finish-shut task types words e)) (still (finishing (refuse 31)) (finishing (refuse 31)) refl)

  -- every call
  pub call_same : (a : Ask) → Agrees M (asks M a m) (asked M a (dock_of M m))
  unfolding asked
  call_same a = go m.stopped refl
    where
      go : (y : Bool) → m.stopped ≡ y → Agrees M (asks M a m) (answered M a (dock_of M m) (stop_by m.stopped m.fault m.late))
      go false e = subst (λ (o : Option E.Fault). Agrees M (asks M a m) (answered M a (dock_of M m) o)) (sym (ap (λ (y : Bool). stop_by y m.fault m.late) e)) (call-on e a)
      go true e = subst (λ (o : Option E.Fault). Agrees M (asks M a m) (answered M a (dock_of M m) o)) (sym (ap (λ (y : Bool). stop_by y m.fault m.late) e)) (off a (fault_by m.fault m.late) e)
