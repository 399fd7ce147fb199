-- Nothing early: when an output, an actuator, an input and a sensor's port change, and to what; call by call.
use Rattle.std.specs.Prelude.{ℕ, ◌+◌, ◌≤◌, ◌<◌, ◌≡◌, refl, ◌≢◌, ◌⊎◌, Bool, true, false, List, [], ◌∷◌, length, get_or, set}
use Rattle.std.proofs.Common.{arith, sym, ◌∙◌, ap, subst, inl, inr}
use Rattle.std.proofs.Math.Option.{none, some}
use Rattle.model.specs.Clock.{fits}
use Rattle.model.specs.Modules.{Module, no_task}
use Rattle.timing.specs.Slots.{closing, opening}
use Rattle.timing.specs.Rules.{Standing, idle, ready, running, done, mode_at, outputs_of, sensed, entered}
use Rattle.timing.specs.Accepted.{Accepted}
use Rattle.timing.specs.Calls.{Ask, Reply, waits, reacted, refused, fell, given, taken, View, reading_types, result_types, beginning, start_mode, started, ask, comes}
use Rattle.timing.specs.Standings.{beginning-idle}
use Rattle.timing.specs.Ticks.{next_time, Means, Reacts, each-means}
use Rattle.timing.specs.Lates.{ending_next}
use Rattle.timing.specs.Orders.{among}
use Rattle.timing.specs.Released.{Came, instant-came}
use Rattle.timing.specs.PortLaws.{mapped, beginning-long, output_count, SensorPort, ActuatorPort, InputPort}
use Rattle.timing.specs.Changes.{tasks_of, targets_of, SizedOne, set_all, Fit, fit-sensed, fit-releases, fit-instant, handed_over}
use Rattle.timing.specs.PortsAfter.{Aimed, fits-long, output-after, actuator-still, input-still, sensor-after}
use Rattle.timing.specs.NothingEarly.{Begun, HandsOver, Read, Updated, after, word_after}

module _ (M : Module) where
  -- A call that is not answered with a reaction changes no port.
  by-reply : (a : Ask) (v : View) (r : Reply) (u : View) → Means M a v r u → (u.place.store.ports ≡ v.place.store.ports) ⊎ ((r ≡ reacted) × Reacts M a v u)
  by-reply a v waits u m = inl (ap (λ (x : View). x.place.store.ports) m.shows)
  by-reply a v reacted u m = inr (refl, m)
  by-reply a v (refused number) u m = inl (ap (λ (x : View). x.place.store.ports) m)
  by-reply a v (fell task) u m = inl (ap (λ (x : View). x.place.store.ports) m.shows)
  by-reply a v (given none) u m = inl (ap (λ (x : View). x.place.store.ports) m)
  by-reply a v (given (some task)) u m = inl (ap (λ (x : View). x.place.store.ports) m.shows)
  by-reply a v taken u m = inl (ap (λ (x : View). x.place.store.ports) m.shows)

  pub ports-between : (a : Ask) (v : View) → ((ask M a v).reply ≢ reacted) → (ask M a v).view.place.store.ports ≡ v.place.store.ports
  ports-between a v n = go (by-reply a v (ask M a v).reply (ask M a v).view (each-means M v a))
    where
      go : ((ask M a v).view.place.store.ports ≡ v.place.store.ports) ⊎ (((ask M a v).reply ≡ reacted) × Reacts M a v (ask M a v).view) → (ask M a v).view.place.store.ports ≡ v.place.store.ports
      go (inl e) = e
      go (inr r) = absurd (n r.0)

  -- ---- what is kept of a store, over every history
  fit-tasks : (v : View) (t : ℕ) (x : Standing) → SizedOne (output_count M t) x → Fit M v.place.store → Fit M (record { ports = v.place.store.ports; tasks = set v.place.store.tasks t x })
  fit-tasks v t x w f = record { long = f.long; sized = set_all (λ j. SizedOne (output_count M j)) v.place.store.tasks t x w f.sized }

  fit-view : (u v : View) → u.place.store ≡ v.place.store → Fit M v.place.store → Fit M u.place.store
  fit-view u v e f = subst (Fit M) (sym e) f

  fit-means : (a : Ask) (v : View) (r : Reply) (u : View) → Means M a v r u → Fit M v.place.store → Fit M u.place.store
  fit-means a v waits u m f = rw m.shows f
  fit-means a v reacted u m f = rw m.shows (fit-instant M v.place.mode (next_time M v) m.words v.place.store m.at m.comes f)
  fit-means a v (refused number) u m f = rw m f
  fit-means a v (fell task) u m f = rw m.shows f
  fit-means a v (given none) u m f = rw m f
  fit-means a v (given (some task)) u m f = rw m.shows (fit-tasks v task running tt f)
  fit-means a v taken u m f =
      let e : length m.words ≡ output_count M m.task = fits-long (result_types M m.task) m.types m.words m.fitting ∙ mapped (λ o. o.type) (get_or M.tasks m.task no_task).outputs in
      rw m.shows (fit-tasks v m.task (done m.words) e f)

  pub fit-comes : (asks : List Ask) (v : View) → Fit M v.place.store → Fit M (comes M asks v).place.store
  fit-comes [] v f = f
  fit-comes (a ∷ rest) v f = fit-comes rest (ask M a v).view (fit-means a v (ask M a v).reply (ask M a v).view (each-means M v a) f)

  pub fit-start : (count : ℕ) (words : List ℕ) → Fit M (started M count words).place.store
  unfolding started entered
  fit-start count words = fit-releases M (opening (mode_at M (start_mode M)).period 0 (mode_at M (start_mode M)).calls) (sensed M words (beginning M)) (fit-sensed M words (beginning M) begin)
    where
      begin : Fit M (beginning M)
      begin = record { long = beginning-long M.sensors M.actuators M.tasks; sized = λ j. rw (beginning-idle M j) tt }

  -- in every history from a start
  pub fit-history : (count : ℕ) (words : List ℕ) (asks : List Ask) → Fit M (comes M asks (started M count words)).place.store
  fit-history count words asks = fit-comes asks (started M count words) (fit-start count words)

  readings-long : (types words : List ℕ) → fits (reading_types M) types words ≡ true → length words ≡ length M.sensors
  readings-long types words h = fits-long (reading_types M) types words h ∙ mapped (λ s. s.type) M.sensors

module _ (M : Module) (W : Accepted M) (A : Aimed M) (v : View) (f : Fit M v.place.store) (a : Ask) where
  abbrev word_before : ℕ → ℕ
  word_before i = get_or v.place.store.ports i 0

  -- what a due tick makes of one port
  by-due : (C : Type 0) (i : ℕ) → ((m : Reacts M a v (after M W A v f a)) → (ask M a v).reply ≡ reacted → ((word_after M W A v f a) i ≡ word_before i) ⊎ C) → ((word_after M W A v f a) i ≡ word_before i) ⊎ C
  by-due C i h = go (by-reply M a v (ask M a v).reply (after M W A v f a) (each-means M v a))
    where
      go : ((after M W A v f a).place.store.ports ≡ v.place.store.ports) ⊎ (((ask M a v).reply ≡ reacted) × Reacts M a v (after M W A v f a)) → ((word_after M W A v f a) i ≡ word_before i) ⊎ C
      go (inl e) = inl (ap (λ (l : List ℕ). get_or l i 0) e)
      go (inr r) = h r.1 r.0

  came : (m : Reacts M a v (after M W A v f a)) → Came M v.place.mode (next_time M v) m.words v.place.store m.at
  came m = instant-came M v.place.mode (next_time M v) m.words v.place.store m.at m.comes

  few : (m : Reacts M a v (after M W A v f a)) → length m.words ≤ length M.sensors
  few m = let e = readings-long M m.types m.words m.due.taken.fitting in omega arith

  shown : (m : Reacts M a v (after M W A v f a)) (i : ℕ) → (word_after M W A v f a) i ≡ get_or m.at.store.ports i 0
  shown m i = ap (λ (u : View). get_or u.place.store.ports i 0) m.shows

  pub output-changes : (task n : ℕ) → n < output_count M task → ((word_after M W A v f a) (outputs_of M task + n) ≡ word_before (outputs_of M task + n)) ⊎ (HandsOver M W A v f a) task n
  output-changes task n lt = by-due ((HandsOver M W A v f a) task n) i on
    where
      i : ℕ
      i = outputs_of M task + n

      on : (m : Reacts M a v (after M W A v f a)) → (ask M a v).reply ≡ reacted → ((word_after M W A v f a) i ≡ word_before i) ⊎ (HandsOver M W A v f a) task n
      on m r = go (among task (tasks_of (ending_next M v))) refl (get_or v.place.store.tasks task idle) refl (shown m i ∙ output-after M W A v.place.mode (next_time M v) m.words v.place.store m.at (came m) f (few m) task n lt)
        where
          go : (y : Bool) → among task (tasks_of (ending_next M v)) ≡ y → (x : Standing) → get_or v.place.store.tasks task idle ≡ x → (word_after M W A v f a) i ≡ handed_over M y x n (word_before i) → ((word_after M W A v f a) i ≡ word_before i) ⊎ (HandsOver M W A v f a) task n
          go false e x w h = inl h
          go true e idle w h = inl h
          go true e ready w h = inl h
          go true e running w h = inl h
          go true e (done results) w h = inr (record { reacts = r; ends = e; results = results; finished = w; holds = h })

  pub actuator-changes : (i : ℕ) → ActuatorPort M i → ((word_after M W A v f a) i ≡ word_before i) ⊎ (Updated M W A v f a) i
  actuator-changes i p = by-due ((Updated M W A v f a) i) i on
    where
      on : (m : Reacts M a v (after M W A v f a)) → (ask M a v).reply ≡ reacted → ((word_after M W A v f a) i ≡ word_before i) ⊎ (Updated M W A v f a) i
      on m r = go (among i (targets_of (closing (mode_at M v.place.mode).period (next_time M v) (mode_at M v.place.mode).updates))) refl
        where
          go : (y : Bool) → among i (targets_of (closing (mode_at M v.place.mode).period (next_time M v) (mode_at M v.place.mode).updates)) ≡ y → ((word_after M W A v f a) i ≡ word_before i) ⊎ (Updated M W A v f a) i
          go true e = inr (record { reacts = r; ends = e })
          go false e = inl (shown m i ∙ actuator-still M W A v.place.mode (next_time M v) m.words v.place.store m.at (came m) f (few m) i p e)

  pub input-changes : (task i : ℕ) → InputPort M task i → ((word_after M W A v f a) i ≡ word_before i) ⊎ (Begun M W A v f a) task
  input-changes task i p = by-due ((Begun M W A v f a) task) i on
    where
      on : (m : Reacts M a v (after M W A v f a)) → (ask M a v).reply ≡ reacted → ((word_after M W A v f a) i ≡ word_before i) ⊎ (Begun M W A v f a) task
      on m r = go (among task m.at.released) refl
        where
          go : (y : Bool) → among task m.at.released ≡ y → ((word_after M W A v f a) i ≡ word_before i) ⊎ (Begun M W A v f a) task
          go true e = inr (record { reacts = r; begins = rw m.shows e })
          go false e = inl (shown m i ∙ input-still M W A v.place.mode (next_time M v) m.words v.place.store m.at (came m) f (few m) task i p e)

  pub sensor-changes : (i : ℕ) → SensorPort M i → ((word_after M W A v f a) i ≡ word_before i) ⊎ (Read M W A v f a) i
  sensor-changes i p = by-due ((Read M W A v f a) i) i on
    where
      on : (m : Reacts M a v (after M W A v f a)) → (ask M a v).reply ≡ reacted → ((word_after M W A v f a) i ≡ word_before i) ⊎ (Read M W A v f a) i
      on m r =
          inr (record {
            reacts = r;
            tick = m;
            holds = shown m i ∙ sensor-after M W A v.place.mode (next_time M v) m.words v.place.store m.at (came m) f (few m) i p (readings-long M m.types m.words m.due.taken.fitting);
          })
