-- Nothing early (document 01, 'What time does'): when a port of the machine changes, and to what.
use Rattle.std.specs.Prelude.{ℕ, ◌+◌, ◌*◌, ◌<◌, ◌≡◌, ◌≢◌, ◌⊎◌, Bool, cond, List, get_or, Ok}
use Rattle.std.proofs.Math.Path.{refl}
use Rattle.std.proofs.Common.{sym, ◌∙◌, ap, subst, inl, inr}
use Rattle.std.proofs.Math.Bool.{true, false}
use Rattle.std.proofs.Math.Option.{Option, none, some}
use Rattle.model.specs.Clock.{Instant, early, due, missed, judged, elapsed, fits}
use Rattle.model.specs.Rooms.{port_room}
use Rattle.model.specs.Modules.{Module, place}
use Rattle.timing.specs.Slots.{closing}
use Rattle.timing.specs.Rules.{Standing, idle, done, mode_at, outputs_of}
use Rattle.timing.specs.Calls as C
use Rattle.timing.specs.Calls.{Ask, reacted, View, ask}
use Rattle.timing.specs.Accepted.{Accepted}
use Rattle.timing.specs.Ticks.{next_time}
use Rattle.timing.specs.Lates.{ending_next}
use Rattle.timing.specs.Orders.{among}
use Rattle.timing.specs.Changes.{tasks_of}
use Rattle.timing.specs.PortLaws.{SensorPort, ActuatorPort, InputPort, output_count}
use Rattle.timing.specs.PortsAfter.{Aimed}
use Rattle.timing.specs.NothingEarly as N
use Rattle.timing.proofs.NothingEarly as NLaws
use Rattle.timing.proofs.NothingEarly.{fit-history}
use Rattle.timing.specs.Docks.{ticking, reply_to}
use Rattle.machine.specs.declared.Reaction.TheVariants.{Obeyed, Refused}
use Rattle.machine.specs.Told.{refuse}
use Rattle.machine.specs.Boards.{Board}
use Rattle.machine.specs.Instructions as E
use Rattle.machine.specs.Instructions.{Res, ok, bad, Halt, Tally}
use Rattle.machine.specs.Words.{lowest_in, joined}
use Rattle.machine.specs.Store.{Store, reaction}
use Rattle.machine.specs.Calls as K
use Rattle.machine.specs.Calls.{State, Ticked, Finished, faulted, came_to, sensed, by_instant, reading_types, result_types, handed_out, at_work}
use Rattle.bridge.specs.Boards.{board}
use Rattle.bridge.specs.Docked.{asks, dock_of}
use Rattle.bridge.specs.Faithful.{Started}
use Rattle.bridge.specs.Beside.{Beside}
use Rattle.bridge.proofs.Beside.{one-call, beside}
use Rattle.bridge.specs.Sources.{Sourced, Set, actuator-updated}
use Rattle.bridge.specs.Promises.{word_in, standing_in, machine_at, view_at}
use Rattle.bridge.proofs.Promises.{ports-same, tasks-same}
-- ---- between due ticks

use Rattle.bridge.specs.PortsKept.{Delivered, Resting, Sensed, Supplied, Updated, machine_then, now, rules, word_after, word_before}

module _ (m : State) where
  rests : Resting m m
  rests = record { same-ports = refl; same_out = refl; same-mode = refl; same-pc = refl }

  fault-rests : (fault : E.Fault) → Resting m (faulted fault m).state
  fault-rests (E.late task) = record { same-ports = refl; same_out = refl; same-mode = refl; same-pc = refl }
  fault-rests E.wild = record { same-ports = refl; same_out = refl; same-mode = refl; same-pc = refl }
  fault-rests E.astray = record { same-ports = refl; same_out = refl; same-mode = refl; same-pc = refl }
  fault-rests E.clash = record { same-ports = refl; same_out = refl; same-mode = refl; same-pc = refl }

  came-rests : (count : ℕ) (tally : Tally) (res : Res (Halt Store)) → ((n : ℕ) → (came_to m count tally res).answer ≢ Obeyed n) → Resting m (came_to m count tally res).state
  came-rests count tally (ok halt) n = absurd (n tally.steps refl)
  came-rests count tally (bad fault) n = fault-rests fault

  module _ (b : Board) where
    instant-rests : (count : ℕ) (words : List ℕ) (instant : Instant) → ((n : ℕ) → (by_instant b m count words instant).answer ≢ Obeyed n) → Resting m (by_instant b m count words instant).state
    unfolding K.reacted
    instant-rests count words (early left) n = record { same-ports = refl; same_out = refl; same-mode = refl; same-pc = refl }
    instant-rests count words due n = came-rests count (reaction b m.aside m.mode m.pc (sensed words m.store)).tally (reaction b m.aside m.mode m.pc (sensed words m.store)).res n
    instant-rests count words missed n = rests

    tick-rests : (count : ℕ) (types words : List ℕ) → ((n : ℕ) → (K.tick b m count types words).answer ≢ Obeyed n) → Resting m (K.tick b m count types words).state
    unfolding K.tick
    tick-rests count types words n = go m.stopped (fits (reading_types b) types words) (instant-rests count words (judged (elapsed m.clock count) m.remaining)) n
      where
        served : Ticked
        served = by_instant b m count words (judged (elapsed m.clock count) m.remaining)

        go : (stopped fit : Bool) → (((n : ℕ) → served.answer ≢ Obeyed n) → Resting m served.state)
            → ((n : ℕ) → (cond stopped (record { answer = Refused 31; state = m }) (cond fit served (record { answer = Refused 32; state = m }))).answer ≢ Obeyed n)
            → Resting m (cond stopped (record { answer = Refused 31; state = m }) (cond fit served (record { answer = Refused 32; state = m }))).state
        go true fit on n = rests
        go false true on n = on n
        go false false on n = rests

    finish-rests : (task : ℕ) (types words : List ℕ) → Resting m (K.finish b m task types words).state
    unfolding K.finish
    finish-rests task types words = go m.stopped (at_work m.store task) (fits (result_types b task) types words)
      where
        taken : State
        taken = K.with_words m (record { ports = m.store.ports; out = m.store.out; waiting = m.store.waiting; finished = joined m.store.finished task }) (place (task * port_room) words m.aside)

        go : (stopped working fit : Bool)
            → Resting m (cond {A = Finished} stopped (record { answer = refuse 31; state = m }) (cond {A = Finished} working (cond {A = Finished} fit (record { answer = Ok tt; state = taken }) (record { answer = refuse 35; state = m })) (record { answer = refuse 34; state = m }))).state
        go true working fit = rests
        go false true true = record { same-ports = refl; same_out = refl; same-mode = refl; same-pc = refl }
        go false true false = rests
        go false false fit = rests

  handed-rests : (found : Option ℕ) → Resting m (handed_out m found).state
  handed-rests none = rests
  handed-rests (some task) = record { same-ports = refl; same_out = refl; same-mode = refl; same-pc = refl }

  next-rests : Resting m (K.next_task m).state
  unfolding K.next_task
  next-rests = go m.stopped
    where
      go : (stopped : Bool) → Resting m (cond stopped (record { answer = refuse 31; state = m }) (handed_out m (lowest_in m.store.waiting))).state
      go true = rests
      go false = handed-rests (lowest_in m.store.waiting)

-- A call that is no reaction changes no port, releases and terminates no task, and leaves the mode.
pub between : (M : Module) (a : Ask) (m : State) → ((n : ℕ) → (asks M a m).answer ≢ ticking (Obeyed n)) → Resting m (asks M a m).state
between M (C.tick count types words) m n = tick-rests m (board M) count types words (λ k e. n k (ap ticking e))
between M C.next m n = next-rests m
between M (C.finish task types words) m n = finish-rests m (board M) task types words

-- ---- at a due tick
module _ (M : Module) (W : Accepted M) (A : Aimed M) (count : ℕ) (types₀ words₀ : List ℕ) (S : Started M W count types₀ words₀) (before : List Ask) (a : Ask) where
  here : Beside M W (now M W A count types₀ words₀ S before a) (rules M W A count types₀ words₀ S before a)
  here = beside M W count types₀ words₀ S before

  then : Beside M W (machine_then M W A count types₀ words₀ S before a) (ask M a (rules M W A count types₀ words₀ S before a)).view
  then = (one-call M W a (now M W A count types₀ words₀ S before a) (rules M W A count types₀ words₀ S before a) here).then

  says : reply_to (asks M a (now M W A count types₀ words₀ S before a)).answer ≡ some (ask M a (rules M W A count types₀ words₀ S before a)).reply
  says = (one-call M W a (now M W A count types₀ words₀ S before a) (rules M W A count types₀ words₀ S before a) here).says

  reacts-so : (ask M a (rules M W A count types₀ words₀ S before a)).reply ≡ reacted → reply_to (asks M a (now M W A count types₀ words₀ S before a)).answer ≡ some reacted
  reacts-so e = says ∙ ap some e

  before_same : (i : ℕ) → (word_before M W A count types₀ words₀ S before a) i ≡ get_or (rules M W A count types₀ words₀ S before a).place.store.ports i 0
  before_same i = ap (λ (l : List ℕ). get_or l i 0) (ports-same M W (now M W A count types₀ words₀ S before a) (rules M W A count types₀ words₀ S before a) here)

  after_same : (i : ℕ) → (word_after M W A count types₀ words₀ S before a) i ≡ get_or (ask M a (rules M W A count types₀ words₀ S before a)).view.place.store.ports i 0
  after_same i = ap (λ (l : List ℕ). get_or l i 0) (ports-same M W (machine_then M W A count types₀ words₀ S before a) (ask M a (rules M W A count types₀ words₀ S before a)).view then)

  still : (i : ℕ) → get_or (ask M a (rules M W A count types₀ words₀ S before a)).view.place.store.ports i 0 ≡ get_or (rules M W A count types₀ words₀ S before a).place.store.ports i 0 → (word_after M W A count types₀ words₀ S before a) i ≡ (word_before M W A count types₀ words₀ S before a) i
  still i e = after_same i ∙ e ∙ sym (before_same i)

  pub output-kept : (task n : ℕ) → n < output_count M task → ((word_after M W A count types₀ words₀ S before a) (outputs_of M task + n) ≡ (word_before M W A count types₀ words₀ S before a) (outputs_of M task + n)) ⊎ (Delivered M W A count types₀ words₀ S before a) task n
  output-kept task n lt = go (NLaws.output-changes M W A (rules M W A count types₀ words₀ S before a) (fit-history M count words₀ before) a task n lt)
    where
      go : (get_or (ask M a (rules M W A count types₀ words₀ S before a)).view.place.store.ports (outputs_of M task + n) 0 ≡ get_or (rules M W A count types₀ words₀ S before a).place.store.ports (outputs_of M task + n) 0) ⊎ N.HandsOver M W A (rules M W A count types₀ words₀ S before a) (fit-history M count words₀ before) a task n
          → ((word_after M W A count types₀ words₀ S before a) (outputs_of M task + n) ≡ (word_before M W A count types₀ words₀ S before a) (outputs_of M task + n)) ⊎ (Delivered M W A count types₀ words₀ S before a) task n
      go (inl e) = inl (still (outputs_of M task + n) e)
      go (inr h) =
          inr (record {
            reacts = reacts-so h.reacts;
            ends = h.ends;
            results = h.results;
            finished = ap (λ (l : List Standing). get_or l task idle) (tasks-same M W (now M W A count types₀ words₀ S before a) (rules M W A count types₀ words₀ S before a) here) ∙ h.finished;
            holds = after_same (outputs_of M task + n) ∙ h.holds;
          })

  pub actuator-kept : Sourced M → (i : ℕ) → ActuatorPort M i → ((word_after M W A count types₀ words₀ S before a) i ≡ (word_before M W A count types₀ words₀ S before a) i) ⊎ (Updated M W A count types₀ words₀ S before a) i
  actuator-kept R i p = go (NLaws.actuator-changes M W A (rules M W A count types₀ words₀ S before a) (fit-history M count words₀ before) a i p)
    where
      on : (r : (ask M a (rules M W A count types₀ words₀ S before a)).reply ≡ reacted) → (get_or (ask M a (rules M W A count types₀ words₀ S before a)).view.place.store.ports i 0 ≡ get_or (rules M W A count types₀ words₀ S before a).place.store.ports i 0)
          ⊎ Set M (closing (mode_at M (rules M W A count types₀ words₀ S before a).place.mode).period (next_time M (rules M W A count types₀ words₀ S before a)) (mode_at M (rules M W A count types₀ words₀ S before a).place.mode).updates) (ask M a (rules M W A count types₀ words₀ S before a)).view.place.store.ports i → ((word_after M W A count types₀ words₀ S before a) i ≡ (word_before M W A count types₀ words₀ S before a) i) ⊎ (Updated M W A count types₀ words₀ S before a) i
      on r (inl e) = inl (still i e)
      on r (inr u) =
          inr (record {
            reacts = reacts-so r;
            by = subst (λ (l : List ℕ). Set M (closing (mode_at M (rules M W A count types₀ words₀ S before a).place.mode).period (next_time M (rules M W A count types₀ words₀ S before a)) (mode_at M (rules M W A count types₀ words₀ S before a).place.mode).updates) l i) (sym (ports-same M W (machine_then M W A count types₀ words₀ S before a) (ask M a (rules M W A count types₀ words₀ S before a)).view then)) u;
          })

      go : (get_or (ask M a (rules M W A count types₀ words₀ S before a)).view.place.store.ports i 0 ≡ get_or (rules M W A count types₀ words₀ S before a).place.store.ports i 0) ⊎ N.Updated M W A (rules M W A count types₀ words₀ S before a) (fit-history M count words₀ before) a i → ((word_after M W A count types₀ words₀ S before a) i ≡ (word_before M W A count types₀ words₀ S before a) i) ⊎ (Updated M W A count types₀ words₀ S before a) i
      go (inl e) = inl (still i e)
      go (inr h) = on h.reacts (actuator-updated M W A R (rules M W A count types₀ words₀ S before a) (fit-history M count words₀ before) a h.reacts i p)

  pub input-kept : (task i : ℕ) → InputPort M task i → ((word_after M W A count types₀ words₀ S before a) i ≡ (word_before M W A count types₀ words₀ S before a) i) ⊎ (Supplied M W A count types₀ words₀ S before a) task
  input-kept task i p = go (NLaws.input-changes M W A (rules M W A count types₀ words₀ S before a) (fit-history M count words₀ before) a task i p)
    where
      go : (get_or (ask M a (rules M W A count types₀ words₀ S before a)).view.place.store.ports i 0 ≡ get_or (rules M W A count types₀ words₀ S before a).place.store.ports i 0) ⊎ N.Begun M W A (rules M W A count types₀ words₀ S before a) (fit-history M count words₀ before) a task → ((word_after M W A count types₀ words₀ S before a) i ≡ (word_before M W A count types₀ words₀ S before a) i) ⊎ (Supplied M W A count types₀ words₀ S before a) task
      go (inl e) = inl (still i e)
      go (inr h) = inr (record { reacts = reacts-so h.reacts; releases = h.begins })

  pub sensor-kept : (i : ℕ) → SensorPort M i → ((word_after M W A count types₀ words₀ S before a) i ≡ (word_before M W A count types₀ words₀ S before a) i) ⊎ (Sensed M W A count types₀ words₀ S before a) i
  sensor-kept i p = go (NLaws.sensor-changes M W A (rules M W A count types₀ words₀ S before a) (fit-history M count words₀ before) a i p)
    where
      go : (get_or (ask M a (rules M W A count types₀ words₀ S before a)).view.place.store.ports i 0 ≡ get_or (rules M W A count types₀ words₀ S before a).place.store.ports i 0) ⊎ N.Read M W A (rules M W A count types₀ words₀ S before a) (fit-history M count words₀ before) a i → ((word_after M W A count types₀ words₀ S before a) i ≡ (word_before M W A count types₀ words₀ S before a) i) ⊎ (Sensed M W A count types₀ words₀ S before a) i
      go (inl e) = inl (still i e)
      go (inr h) =
          inr (record {
            reacts = reacts-so h.reacts;
            at = h.tick.count;
            types = h.tick.types;
            words = h.tick.words;
            called = h.tick.called;
            holds = after_same i ∙ h.holds;
          })
