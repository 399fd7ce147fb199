-- One instant, of an accepted module, and one port: what an output, an actuator, an input and a sensor's port hold after it.
use Rattle.std.specs.Prelude.{ℕ, zero, suc, ◌+◌, ◌≤◌, ◌<◌, ◌≡◌, refl, ◌≢◌, ◌⊎◌, true, false, ◌&&◌, List, [], ◌∷◌, length, get_or, eqb}
use Rattle.std.proofs.Common.{arith, sym, ◌∙◌, ap, subst, inl, inr, ne_eqb}
use Rattle.std.proofs.Math.Decide.{ℕ_discrete}
use Rattle.model.specs.Values.{fits_type}
use Rattle.model.specs.Clock.{fits}
use Rattle.model.specs.Modules.{Module, Mode, Act, Call, Update}
use Rattle.timing.specs.Slots.{closing, ends_at, begins_at}
use Rattle.timing.specs.SlotLaws.{Each, each_keep, and-true}
use Rattle.timing.specs.Rules.{idle, Store, Place, no_mode, mode_at, inputs_of, outputs_of, sensed}
use Rattle.timing.specs.Accepted.{Accepted, CallFits}
use Rattle.timing.specs.Orders.{among}
use Rattle.timing.specs.Released.{beginning_there, updated_at, Came}
use Rattle.timing.specs.PortLaws.{place-above, place_inside, input_count, output_count, SensorPort, ActuatorPort, InputPort, task-ports-low, task-ports-within, apart}
use Rattle.timing.specs.Changes.{tasks_of, targets_of, Fit, fit-sensed, Off, terminations-off, updates-off, releases-off, handed_over, terminations-hand}

-- what holds of every mode of the list holds of the mode of any number
each-mode : (C : Mode → Type 0) → C no_mode → (modes : List Mode) → ((k : ℕ) → k < length modes → C (get_or modes k no_mode)) → (k : ℕ) → C (get_or modes k no_mode)
each-mode C n [] h k = n
each-mode C n (m ∷ modes) h zero = h 0 (omega arith)
each-mode C n (m ∷ modes) h (suc k) = each-mode C n modes (λ j l. h (suc j) (omega arith)) k

-- values that fit are as many as are wanted
pub fits-long : (wanted types words : List ℕ) → fits wanted types words ≡ true → length words ≡ length wanted
unfolding fits
fits-long [] [] [] h = refl
fits-long [] [] (word ∷ words) h = let z : ◌≡◌ {A = ℕ} 0 1 = cc in absurd (omega arith)
fits-long [] (type ∷ types) words h = let z : ◌≡◌ {A = ℕ} 0 1 = cc in absurd (omega arith)
fits-long (wanted ∷ others) [] words h = let z : ◌≡◌ {A = ℕ} 0 1 = cc in absurd (omega arith)
fits-long (wanted ∷ others) (type ∷ types) [] h = let z : ◌≡◌ {A = ℕ} 0 1 = cc in absurd (omega arith)
fits-long (wanted ∷ others) (type ∷ types) (word ∷ words) h = ap suc (fits-long others types words (and-true (eqb type wanted && fits_type type word) (fits others types words) h).1)

-- Every update writes an actuator's port.
pub record Aimed (M : Module) : Type 0 where
  pub aims : (k : ℕ) → k < length M.modes → Each (λ a. ActuatorPort M a.what.target) (get_or M.modes k no_mode).updates

none-among : (M : Module) (i : ℕ) → (ActuatorPort M i → ⊥) → (acts : List (Act Update)) → Each (λ a. ActuatorPort M a.what.target) acts → among i (targets_of acts) ≡ false
none-among M i off [] w = refl
none-among M i off (a ∷ acts) w =
    let b : eqb i a.what.target ≡ false = ne_eqb i a.what.target (λ e. off (subst (λ (t : ℕ). ActuatorPort M t) (sym e) w.0)) in
    rw b (none-among M i off acts w.1)

module _ (M : Module) (W : Accepted M) (A : Aimed M) where
  aimed : (k t : ℕ) → Each (λ a. ActuatorPort M a.what.target) (closing (mode_at M k).period t (mode_at M k).updates)
  aimed k t =
      each_keep (λ a. ActuatorPort M a.what.target) (ends_at (mode_at M k).period t) (mode_at M k).updates
      (each-mode (λ m. Each (λ a. ActuatorPort M a.what.target) m.updates) tt M.modes A.aims k)

  as_many : (at : Place) → Each (λ a. length a.what.sources ≡ input_count M a.what.task) (beginning_there M at)
  as_many at =
      each_keep (λ a. length a.what.sources ≡ input_count M a.what.task) (begins_at (mode_at M at.mode).period at.time) (mode_at M at.mode).calls
      (each-mode (λ m. Each (λ a. length a.what.sources ≡ input_count M a.what.task) m.calls) tt M.modes (λ k l. go (get_or M.modes k no_mode).calls (W.modes k l).calls) at.mode)
    where
      go : (acts : List (Act Call)) → Each (CallFits M) acts → Each (λ a. length a.what.sources ≡ input_count M a.what.task) acts
      go [] w = tt
      go (a ∷ acts) w = (w.0.as_many, go acts w.1)

  -- ---- one instant

  module _ (k t : ℕ) (readings : List ℕ) (s : Store) (at : Place) (c : Came M k t readings s at) (f : Fit M s) (few : length readings ≤ length M.sensors) where
    abbrev closing_calls : List (Act Call)
    closing_calls = closing (mode_at M k).period t (mode_at M k).calls

    abbrev closing_updates : List (Act Update)
    closing_updates = closing (mode_at M k).period t (mode_at M k).updates

    sensed-off : (i : ℕ) → length M.sensors ≤ i → get_or (sensed M readings s).ports i 0 ≡ get_or s.ports i 0
    sensed-off i h = place-above 0 i readings s.ports (omega arith)

    released-off : (i : ℕ) → Each (λ a. among a.what.task at.released ≡ true → Off M i (inputs_of M a.what.task) (length a.what.sources)) (beginning_there M at)
        → get_or at.store.ports i 0 ≡ get_or (updated_at M k t c.ended).ports i 0
    released-off i w = ap (λ (x : Store). get_or x.ports i 0) c.store ∙ releases-off M i at.released (beginning_there M at) (updated_at M k t c.ended) (λ j h. rw c.released h) w

    -- a release of another task, or of this one where i is an output, writes elsewhere
    input-off : (task i : ℕ) → inputs_of M task ≤ i → i < outputs_of M task + output_count M task → (a : Act Call) → length a.what.sources ≡ input_count M a.what.task → (a.what.task ≢ task)
        → Off M i (inputs_of M a.what.task) (length a.what.sources)
    input-off task i lo hi a e ne = go (apart M a.what.task task ne i lo hi)
      where
        go : (outputs_of M a.what.task + output_count M a.what.task ≤ i) ⊎ (i < inputs_of M a.what.task) → Off M i (inputs_of M a.what.task) (length a.what.sources)
        go (inl h) = inr (omega arith)
        go (inr h) = inl h

    -- An output holds what it held; or, where a slot of its task ends and the task is finished, the result.
    pub output-after : (task n : ℕ) → n < output_count M task
        → get_or at.store.ports (outputs_of M task + n) 0 ≡ handed_over M (among task (tasks_of closing_calls)) (get_or s.tasks task idle) n (get_or s.ports (outputs_of M task + n) 0)
    output-after task n lt =
        let i = outputs_of M task + n in
        let low = task-ports-low M task in
        released-off i (off (beginning_there M at) (as_many at))
        ∙ updates-off M i closing_updates c.ended.ports (none-among M i (λ p. let b = p.below in omega arith) closing_updates (aimed k t))
        ∙ terminations-hand M task n lt closing_calls (sensed M readings s) c.ended (fit-sensed M readings s f) c.terms
        ∙ ap (handed_over M (among task (tasks_of closing_calls)) (get_or s.tasks task idle) n) (sensed-off i (omega arith))
      where
        one : (a : Act Call) → length a.what.sources ≡ input_count M a.what.task → Dec (a.what.task ≡ task) → Off M (outputs_of M task + n) (inputs_of M a.what.task) (length a.what.sources)
        one a e (yes h) = let e1 : length a.what.sources ≡ input_count M task = rw h at e in inr (rw h (omega arith))
        one a e (no h) = input-off task (outputs_of M task + n) (omega arith) (omega arith) a e h

        off : (acts : List (Act Call)) → Each (λ a. length a.what.sources ≡ input_count M a.what.task) acts
            → Each (λ a. among a.what.task at.released ≡ true → Off M (outputs_of M task + n) (inputs_of M a.what.task) (length a.what.sources)) acts
        off [] w = tt
        off (a ∷ acts) w = ((λ h. one a w.0 (ℕ_discrete a.what.task task)), off acts w.1)

    -- An actuator holds what it held, unless a slot of one of its updates ends.
    pub actuator-still : (i : ℕ) → ActuatorPort M i → among i (targets_of closing_updates) ≡ false → get_or at.store.ports i 0 ≡ get_or s.ports i 0
    actuator-still i p h =
        let b = p.below in
        released-off i (off (beginning_there M at)) ∙ updates-off M i closing_updates c.ended.ports h
        ∙ terminations-off M i (λ j. let l = task-ports-low M j in inl (omega arith)) closing_calls (sensed M readings s) c.ended (fit-sensed M readings s f) c.terms ∙ sensed-off i p.from
      where
        off : (acts : List (Act Call)) → Each (λ a. among a.what.task at.released ≡ true → Off M i (inputs_of M a.what.task) (length a.what.sources)) acts
        off [] = tt
        off (a ∷ acts) = ((λ h. let l = task-ports-low M a.what.task in let q = p.below in inl (omega arith)), off acts)

    -- An input holds what it held, unless its task is released.
    pub input-still : (task i : ℕ) → InputPort M task i → among task at.released ≡ false → get_or at.store.ports i 0 ≡ get_or s.ports i 0
    input-still task i p h =
        let low = task-ports-low M task in
        let lo = p.from in
        let hi = p.below in
        released-off i (off (beginning_there M at) (as_many at))
        ∙ updates-off M i closing_updates c.ended.ports (none-among M i (λ q. let b = q.below in omega arith) closing_updates (aimed k t))
        ∙ terminations-off M i (λ j. ends j (ℕ_discrete j task)) closing_calls (sensed M readings s) c.ended (fit-sensed M readings s f) c.terms ∙ sensed-off i (omega arith)
      where
        ends : (j : ℕ) → Dec (j ≡ task) → Off M i (outputs_of M j) (output_count M j)
        ends j (yes e) = let b = p.below in inl (rw e (omega arith))
        ends j (no ne) = go (apart M j task ne i p.from (let b = p.below in omega arith))
          where
            go : (outputs_of M j + output_count M j ≤ i) ⊎ (i < inputs_of M j) → Off M i (outputs_of M j) (output_count M j)
            go (inl q) = inr q
            go (inr q) = inl (omega arith)

        off : (acts : List (Act Call)) → Each (λ a. length a.what.sources ≡ input_count M a.what.task) acts
            → Each (λ a. among a.what.task at.released ≡ true → Off M i (inputs_of M a.what.task) (length a.what.sources)) acts
        off [] w = tt
        off (a ∷ acts) w =
            ((λ r. input-off task i p.from (let b = p.below in omega arith) a w.0 (λ e. let x : among task at.released ≡ true = rw e at r in let z : ◌≡◌ {A = ℕ} 0 1 = cc in omega arith)), off acts w.1)

    -- A sensor's port holds the host's reading.
    pub sensor-after : (i : ℕ) → SensorPort M i → length readings ≡ length M.sensors → get_or at.store.ports i 0 ≡ get_or readings i 0
    sensor-after i p e =
        let l0 = task-ports-low M 0 in
        let within = task-ports-within M 0 in
        let long = f.long in
        let z : 0 + i ≡ i = omega arith in
        let q : get_or (sensed M readings s).ports (0 + i) 0 ≡ get_or readings i 0 = place_inside 0 i readings s.ports (omega arith) (omega arith) in
        released-off i (off (beginning_there M at))
        ∙ updates-off M i closing_updates c.ended.ports (none-among M i (λ x. let b = x.from in omega arith) closing_updates (aimed k t))
        ∙ terminations-off M i (λ j. let l = task-ports-low M j in inl (omega arith)) closing_calls (sensed M readings s) c.ended (fit-sensed M readings s f) c.terms ∙ (rw z at q)
      where
        off : (acts : List (Act Call)) → Each (λ a. among a.what.task at.released ≡ true → Off M i (inputs_of M a.what.task) (length a.what.sources)) acts
        off [] = tt
        off (a ∷ acts) = ((λ h. let l = task-ports-low M a.what.task in inl (omega arith)), off acts)
