-- The source of an update is a sensor or an output (document 01, 'The text of a module'), so no update and no release writes it: an updated actuator holds its source's word.
use Rattle.std.specs.Prelude.{ℕ, zero, suc, ◌+◌, ◌-◌, ◌≤◌, ◌<◌, ◌≡◌, refl, ◌≢◌, ◌⊎◌, Bool, true, false, cond, List, [], ◌∷◌, ◌++◌, map, set, eqb}
use native.Mathlib.Omega.{arith}
use Rattle.std.proofs.Math.Decide.{ℕ_discrete, dec_lt}
use Rattle.std.proofs.Common.{sym, ◌∙◌, subst, inl, inr, append_assoc, length-append, length-set, get_or-append-add, get_or-set_same, get_or-set_other, eqb-true}
use Rattle.std.proofs.Math.Path.{ap}
use Rattle.std.proofs.Math.ListN.{length, get_or}
use Rattle.codec.proofs.Codecs.{and_left}
use Rattle.model.specs.Modules.{Module, Mode, Task, no_task, Act, Call, Update, task_ports, each, inputs_at}
use Rattle.file.specs.References.{task_roles, port_roles, is_source, good_driver}
use Rattle.refusals.specs.Texts.{module_of}
use Rattle.timing.specs.Slots.{closing, ends_at, begins_at}
use Rattle.timing.specs.SlotLaws.{Each, each_keep, or_elim}
use Rattle.timing.specs.Rules.{Store, Place, no_mode, mode_at, inputs_of, task_ports_from, passes, sensed, updated, updates}
use Rattle.timing.specs.Accepted.{Accepted, CallFits, ports}
use Rattle.timing.specs.Calls.{Ask, reacted, View, ask, reading_types}
use Rattle.timing.specs.Ticks.{next_time, meaning}
use Rattle.timing.specs.Orders.{among}
use Rattle.timing.specs.Released.{beginning_there, updated_at, Came, instant-came}
use Rattle.timing.specs.PortLaws.{mapped, place-above, task-ports-within, input_count, ActuatorPort, InputPort, task-ports-low}
use Rattle.timing.specs.PortsAfter.{Aimed, fits-long}
use Rattle.timing.specs.Changes.{Fit, fit-sensed, fit-terminations, Off, terminations-off, releases-off}
use Rattle.prescribed.specs.Compiles.{file, compile_of}
use Rattle.prescribed.proofs.Acceptance.{free, accepts}
use Rattle.accepted.specs.Lists.{each_map, each_at}
use Rattle.accepted.specs.Meanings.{roles_of}
use Rattle.accepted.specs.Takes.{Updated, Drives, modes-drive}
use Rattle.accepted.specs.Compiled.{unbroken-fine}

-- ---- a port's role

same-role : {A : Type 0} (xs : List A) (role : ℕ) (rest : List ℕ) (i : ℕ) → i < length xs → get_or (map (λ x. role) xs ++ rest) i 0 ≡ role
same-role [] role rest i h = absurd (omega arith)
same-role (x ∷ xs) role rest zero h = refl
same-role (x ∷ xs) role rest (suc i) h = same-role xs role rest i (omega arith)

past-role : {A : Type 0} (xs : List A) (role : ℕ) (rest : List ℕ) (i : ℕ) → get_or (map (λ x. role) xs ++ rest) (length xs + i) 0 ≡ get_or rest i 0
past-role xs role rest i = ap (λ (n : ℕ). get_or (map (λ x. role) xs ++ rest) (n + i) 0) (sym (mapped (λ x. role) xs)) ∙ get_or-append-add (map (λ x. role) xs) rest i 0

roles-long : (t : Task) → length (task_roles t) ≡ task_ports t
roles-long t =
    let a = length-append {A = ℕ} (map (λ i. 3) t.inputs) (map (λ o. 4) t.outputs) in
    let b = mapped {B = ℕ} (λ i. 3) t.inputs in
    let c = mapped {B = ℕ} (λ o. 4) t.outputs in
    omega arith

inputs-low : (at : ℕ) (tasks : List Task) (k : ℕ) → at ≤ inputs_at at tasks k
inputs-low at [] k = omega arith
inputs-low at (t ∷ tasks) zero = omega arith
inputs-low at (t ∷ tasks) (suc k) = let h = inputs-low (at + task_ports t) tasks k in omega arith

input-role : (at : ℕ) (tasks : List Task) (k i : ℕ) → inputs_at at tasks k ≤ at + i → at + i < inputs_at at tasks k + length (get_or tasks k no_task).inputs → get_or (each task_roles tasks) i 0 ≡ 3
input-role at [] k i lo hi = absurd (omega arith)
input-role at (t ∷ tasks) zero i lo hi =
    ap (λ (l : List ℕ). get_or l i 0) (append_assoc (map (λ x. 3) t.inputs) (map (λ o. 4) t.outputs) (each task_roles tasks))
    ∙ same-role t.inputs 3 (map (λ o. 4) t.outputs ++ each task_roles tasks) i (omega arith)
input-role at (t ∷ tasks) (suc k) i lo hi =
    let low = inputs-low (at + task_ports t) tasks k in
    let long = roles-long t in
    let j = i - task_ports t in
    let e : i ≡ length (task_roles t) + j = omega arith in
    ap (λ (n : ℕ). get_or (task_roles t ++ each task_roles tasks) n 0) e ∙ get_or-append-add (task_roles t) (each task_roles tasks) j 0
    ∙ input-role (at + task_ports t) tasks k j (omega arith) (omega arith)

module _ (M : Module) where
  -- a port that is no actuator and no input
  pub record Source (i : ℕ) : Type 0 where
    pub no-actuator : ActuatorPort M i → ⊥
    pub no-input : (task : ℕ) → InputPort M task i → ⊥

  tasks-role : (j : ℕ) → get_or (roles_of M) (task_ports_from M + j) 0 ≡ get_or (each task_roles M.tasks) j 0
  unfolding port_roles
  tasks-role j =
      let e : task_ports_from M + j ≡ length M.sensors + (length M.actuators + j) = omega arith in
      ap (λ (n : ℕ). get_or (roles_of M) n 0) e
      ∙ past-role M.sensors 1 (map (λ a. 2) M.actuators ++ each task_roles M.tasks) (length M.actuators + j) ∙ past-role M.actuators 2 (each task_roles M.tasks) j

  actuators-role : (i : ℕ) → ActuatorPort M i → get_or (roles_of M) i 0 ≡ 2
  unfolding port_roles
  actuators-role i p =
      let lo = p.from in
      let hi = p.below in
      let j = i - length M.sensors in
      let e : i ≡ length M.sensors + j = omega arith in
      ap (λ (n : ℕ). get_or (roles_of M) n 0) e
      ∙ past-role M.sensors 1 (map (λ a. 2) M.actuators ++ each task_roles M.tasks) j ∙ same-role M.actuators 2 (each task_roles M.tasks) j (omega arith)

  inputs-role : (task i : ℕ) → InputPort M task i → get_or (roles_of M) i 0 ≡ 3
  inputs-role task i p =
      let lo = p.from in
      let hi = p.below in
      let low = task-ports-low M task in
      let j = i - task_ports_from M in
      let e : i ≡ task_ports_from M + j = omega arith in
      ap (λ (n : ℕ). get_or (roles_of M) n 0) e ∙ tasks-role j ∙ input-role (task_ports_from M) M.tasks task j (omega arith) (omega arith)

  source_is : (i : ℕ) → is_source (roles_of M) i ≡ true → Source i
  source_is i h =
      record {
        no-actuator = λ p. clash (actuators-role i p) (λ e. omega arith) (λ e. omega arith);
        no-input = λ task p. clash (inputs-role task i p) (λ e. omega arith) (λ e. omega arith);
      }
    where
      clash : {r : ℕ} → get_or (roles_of M) i 0 ≡ r → r ≢ 1 → r ≢ 4 → ⊥
      clash e f g =
          or_elim (eqb (get_or (roles_of M) i 0) 1) (eqb (get_or (roles_of M) i 0) 4) h (λ q. f (sym e ∙ eqb-true _ _ q)) (λ q. g (sym e ∙ eqb-true _ _ q))

-- Every update reads such a port.
pub record Sourced (M : Module) : Type 0 where
  pub sources : (k : ℕ) → k < length M.modes → Each (λ a. Source M a.what.source) (get_or M.modes k no_mode).updates

pub compiled-sourced : (text : List ℕ) (room : ℕ) (content : List ℕ) → compile_of text room ≡ file content → Sourced (module_of text)
unfolding good_driver
compiled-sourced text room content e =
    let a = accepts text room content e in
    let M = module_of text in
    let drive = modes-drive text (free a.readable) (unbroken-fine text a.unbroken) in
    record { sources = λ k h. each_map (Updated M) (λ u. Source M u.what.source) (λ u g. source_is M u.what.source (and_left _ _ (and_left _ _ g))) (get_or M.modes k no_mode).updates (each_at (Drives M) no_mode M.modes k drive h).updated }

-- ---- what updates leave in a port

module _ (M : Module) where
  -- One of these updates set port i, to its source's word.
  pub record Set (acts : List (Act Update)) (ports : List ℕ) (i : ℕ) : Type 0 where
    pub before : List (Act Update)
    pub update : Act Update
    pub after : List (Act Update)
    pub row : acts ≡ before ++ (update ∷ after)
    pub aims : update.what.target ≡ i
    pub holds : get_or ports i 0 ≡ get_or ports update.what.source 0

  -- an update of an actuator from a source
  abbrev Proper : Act Update → Type 0
  Proper a = ActuatorPort M a.what.target × Source M a.what.source

  updates-source : (acts : List (Act Update)) → Each Proper acts → (l : List ℕ) (j : ℕ) → Source M j → get_or (updates M acts l) j 0 ≡ get_or l j 0
  updates-source [] w l j s = refl
  updates-source (a ∷ acts) w l j s = updates-source acts w.1 (cond (passes M a.guard l) (updated M a.what l) l) j s ∙ go (passes M a.guard l)
    where
      go : (y : Bool) → get_or (cond y (updated M a.what l) l) j 0 ≡ get_or l j 0
      go true = get_or-set_other l a.what.target j (get_or l a.what.source 0) 0 (λ e. s.no-actuator (subst (ActuatorPort M) (sym e) w.0.0))
      go false = refl

  updates_set : (acts : List (Act Update)) → Each Proper acts → (l : List ℕ) (i : ℕ) → i < length l → (get_or (updates M acts l) i 0 ≡ get_or l i 0) ⊎ Set acts (updates M acts l) i
  updates_set [] w l i h = inl refl
  updates_set (a ∷ acts) w l i h =
      go (passes M a.guard l) (updates_set acts w.1 l i h) (updates_set acts w.1 (updated M a.what l) i (rw length-set h))
    where
      later : (n : List ℕ) → Set acts n i → Set (a ∷ acts) n i
      later n s = record { before = a ∷ s.before; update = s.update; after = s.after; row = ap (λ (r : List (Act Update)). a ∷ r) s.row; aims = s.aims; holds = s.holds }

      on : Dec (i ≡ a.what.target) → (get_or (updates M acts (updated M a.what l)) i 0 ≡ get_or (updated M a.what l) i 0) ⊎ Set acts (updates M acts (updated M a.what l)) i
          → (get_or (updates M acts (updated M a.what l)) i 0 ≡ get_or l i 0) ⊎ Set (a ∷ acts) (updates M acts (updated M a.what l)) i
      on d (inr s) = inr (later _ s)
      on (no n) (inl e) = inl (e ∙ get_or-set_other l a.what.target i (get_or l a.what.source 0) 0 n)
      on (yes q) (inl e) =
          let t : get_or (updated M a.what l) i 0 ≡ get_or l a.what.source 0 = subst (λ (k : ℕ). get_or (set l k (get_or l a.what.source 0)) i 0 ≡ get_or l a.what.source 0) q (get_or-set_same l i (get_or l a.what.source 0) 0 h) in
          let u : get_or (updates M acts (updated M a.what l)) a.what.source 0 ≡ get_or l a.what.source 0 =
          updates-source acts w.1 (updated M a.what l) a.what.source w.0.1
          ∙ get_or-set_other l a.what.target a.what.source (get_or l a.what.source 0) 0 (λ z. w.0.1.no-actuator (subst (ActuatorPort M) (sym z) w.0.0)) in
          inr (record { before = []; update = a; after = acts; row = refl; aims = sym q; holds = e ∙ t ∙ sym u })

      go : (y : Bool) → (get_or (updates M acts l) i 0 ≡ get_or l i 0) ⊎ Set acts (updates M acts l) i
          → (get_or (updates M acts (updated M a.what l)) i 0 ≡ get_or (updated M a.what l) i 0) ⊎ Set acts (updates M acts (updated M a.what l)) i
          → (get_or (updates M acts (cond y (updated M a.what l) l)) i 0 ≡ get_or l i 0) ⊎ Set (a ∷ acts) (updates M acts (cond y (updated M a.what l) l)) i
      go true f g = on (ℕ_discrete i a.what.target) g
      go false (inl e) g = inl e
      go false (inr s) g = inr (later _ s)

-- ---- at a reaction

each-mode : (C : Mode → Type 0) → C no_mode → (modes : List Mode) → ((k : ℕ) → k < length modes → C (get_or modes k no_mode)) → (k : ℕ) → C (get_or modes k no_mode)
each-mode C n [] h k = n
each-mode C n (m ∷ modes) h zero = h 0 (omega arith)
each-mode C n (m ∷ modes) h (suc k) = each-mode C n modes (λ j l. h (suc j) (omega arith)) k

pub each_in : {A : Type 0} (C : A → Type 0) (before after : List A) (a : A) → Each C (before ++ (a ∷ after)) → C a
each_in C [] after a w = w.0
each_in C (b ∷ before) after a w = each_in C before after a w.1

pairs : {A : Type 0} (C D : A → Type 0) (l : List A) → Each C l → Each D l → Each (λ a. C a × D a) l
pairs C D [] c d = tt
pairs C D (a ∷ l) c d = ((c.0, d.0), pairs C D l c.1 d.1)

module _ (M : Module) (W : Accepted M) (A : Aimed M) (R : Sourced M) where
  proper : (k t : ℕ) → Each (Proper M) (closing (mode_at M k).period t (mode_at M k).updates)
  proper k t =
      each_keep (Proper M) (ends_at (mode_at M k).period t) (mode_at M k).updates
      (each-mode (λ m. Each (Proper M) m.updates) tt M.modes (λ j h. pairs (λ a. ActuatorPort M a.what.target) (λ a. Source M a.what.source) (get_or M.modes j no_mode).updates (A.aims j h) (R.sources j h)) k)

  as_many : (at : Place) → Each (λ a. length a.what.sources ≡ input_count M a.what.task) (beginning_there M at)
  as_many at =
      each_keep (λ a. length a.what.sources ≡ input_count M a.what.task) (begins_at (mode_at M at.mode).period at.time) (mode_at M at.mode).calls
      (each-mode (λ m. Each (λ a. length a.what.sources ≡ input_count M a.what.task) m.calls) tt M.modes (λ k l. each_map (CallFits M) (λ a. length a.what.sources ≡ input_count M a.what.task) (λ a w. w.as_many) (get_or M.modes k no_mode).calls (W.modes k l).calls) at.mode)

  module _ (k t : ℕ) (readings : List ℕ) (s : Store) (at : Place) (c : Came M k t readings s at) (f : Fit M s) (few : length readings ≤ length M.sensors) where
    -- no release writes a port that is no input
    released-off : (i : ℕ) → ((task : ℕ) → InputPort M task i → ⊥) → get_or at.store.ports i 0 ≡ get_or (updated_at M k t c.ended).ports i 0
    released-off i n = ap (λ (x : Store). get_or x.ports i 0) c.store ∙ releases-off M i at.released (beginning_there M at) (updated_at M k t c.ended) (λ j h. rw c.released h) (offs (beginning_there M at) (as_many at))
      where
        off : (a : Act Call) → length a.what.sources ≡ input_count M a.what.task → Dec (i < inputs_of M a.what.task) → Dec (i < inputs_of M a.what.task + input_count M a.what.task) → Off M i (inputs_of M a.what.task) (length a.what.sources)
        off a e (yes h) d = inl h
        off a e (no h) (yes g) = absurd (n a.what.task (record { from = omega arith; below = g }))
        off a e (no h) (no g) = inr (omega arith)

        offs : (acts : List (Act Call)) → Each (λ a. length a.what.sources ≡ input_count M a.what.task) acts
            → Each (λ a. among a.what.task at.released ≡ true → Off M i (inputs_of M a.what.task) (length a.what.sources)) acts
        offs [] w = tt
        offs (a ∷ acts) w = ((λ h. off a w.0 (dec_lt i (inputs_of M a.what.task)) (dec_lt i (inputs_of M a.what.task + input_count M a.what.task))), offs acts w.1)

    actuator-after : (i : ℕ) → ActuatorPort M i → (get_or at.store.ports i 0 ≡ get_or s.ports i 0) ⊎ Set M (closing (mode_at M k).period t (mode_at M k).updates) at.store.ports i
    actuator-after i p = go (updates_set M closed (proper k t) c.ended.ports i (let w = task-ports-within M 0 in let l = task-ports-low M 0 in let b = p.below in let e = ended-long in omega arith))
      where
        closed : List (Act Update)
        closed = closing (mode_at M k).period t (mode_at M k).updates

        ended-long : length c.ended.ports ≡ ports M
        ended-long = (fit-terminations M (closing (mode_at M k).period t (mode_at M k).calls) (sensed M readings s) c.ended c.terms (fit-sensed M readings s f)).long

        no-input : (task : ℕ) → InputPort M task i → ⊥
        no-input task q = let lo = q.from in let hi = p.below in let low = task-ports-low M task in omega arith

        kept : get_or c.ended.ports i 0 ≡ get_or s.ports i 0
        kept =
            terminations-off M i (λ j. let l = task-ports-low M j in let b = p.below in inl (omega arith)) (closing (mode_at M k).period t (mode_at M k).calls) (sensed M readings s) c.ended (fit-sensed M readings s f) c.terms
            ∙ place-above 0 i readings s.ports (let b = p.from in omega arith)

        go : (get_or (updates M closed c.ended.ports) i 0 ≡ get_or c.ended.ports i 0) ⊎ Set M closed (updates M closed c.ended.ports) i
            → (get_or at.store.ports i 0 ≡ get_or s.ports i 0) ⊎ Set M closed at.store.ports i
        go (inl e) = inl (released-off i no-input ∙ e ∙ kept)
        go (inr u) = inr (record { before = u.before; update = u.update; after = u.after; row = u.row; aims = u.aims; holds = released-off i no-input ∙ u.holds ∙ sym (released-off u.update.what.source (source u).no-input) })
          where
            source : (u : Set M closed (updates M closed c.ended.ports) i) → Source M u.update.what.source
            source u = (each_in (Proper M) u.before u.after u.update (subst (Each (Proper M)) u.row (proper k t))).1

  -- An actuator behind a call that is a reaction.
  pub actuator-updated : (v : View) → Fit M v.place.store → (a : Ask) → (ask M a v).reply ≡ reacted → (i : ℕ) → ActuatorPort M i
      → (get_or (ask M a v).view.place.store.ports i 0 ≡ get_or v.place.store.ports i 0)
      ⊎ Set M (closing (mode_at M v.place.mode).period (next_time M v) (mode_at M v.place.mode).updates) (ask M a v).view.place.store.ports i
  actuator-updated v f a r i p =
      let m = meaning M v a reacted r in
      let long : length m.words ≡ length M.sensors = fits-long (reading_types M) m.types m.words m.due.taken.fitting ∙ mapped (λ s. s.type) M.sensors in
      let c = instant-came M v.place.mode (next_time M v) m.words v.place.store m.at m.comes in
      subst (λ (u : View). (get_or u.place.store.ports i 0 ≡ get_or v.place.store.ports i 0) ⊎ Set M (closing (mode_at M v.place.mode).period (next_time M v) (mode_at M v.place.mode).updates) u.place.store.ports i) (sym m.shows)
      (actuator-after v.place.mode (next_time M v) m.words v.place.store m.at c f (omega arith) i p)
