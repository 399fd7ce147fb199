-- What an instant changes of one port: nothing but what document 01 says, and when it says so.
use Rattle.std.specs.Prelude.{ℕ, zero, suc, ◌+◌, ◌≤◌, ◌<◌, ◌≡◌, refl, ◌≢◌, ◌⊎◌, Bool, true, false, cond, ◌||◌, List, [], ◌∷◌, map, length, get_or, set, eqb}
use Rattle.std.proofs.Common.{arith, sym, ◌∙◌, ap, subst, inl, inr, length-set, get_or-set_other, eq-eqb, ne_eqb}
use Rattle.std.proofs.Math.Decide.{ℕ_discrete}
use Rattle.std.proofs.lemmas.Bool.{eqb-false}
use Rattle.model.specs.Modules.{Module, Act, Call, Update, place, copy_to}
use Rattle.timing.specs.Slots.{closing}
use Rattle.timing.specs.SlotLaws.{Each, or-false, or_left, or_right}
use Rattle.timing.specs.Rules.{Standing, idle, ready, running, done, Store, well, Place, mode_at, inputs_of, outputs_of, passes, sensed, ended, terminations, updated, updates, begun, releases, released_by, instant}
use Rattle.timing.specs.Accepted.{ports}
use Rattle.timing.specs.Standings.{terminated, split}
use Rattle.timing.specs.Orders.{among}
use Rattle.timing.specs.Released.{beginning_there, updated_at, Came, instant-came}
use Rattle.timing.specs.PortLaws.{place-length, place-below, place-above, place_inside, copy-length, copy-below, copy-above, output_count, task-ports-within, apart}

-- the tasks that activities invoke
abbrev pub tasks_of : List (Act Call) → List ℕ
tasks_of acts = map (λ a. a.what.task) acts

-- the actuators that activities update
abbrev pub targets_of : List (Act Update) → List ℕ
targets_of acts = map (λ a. a.what.target) acts

-- ---- what is kept of a store: as many words as ports, and results aside as many as the task's outputs

-- a finished task's results are as many as its outputs
abbrev pub SizedOne : ℕ → Standing → Type 0
SizedOne n idle = Unit {0}
SizedOne n ready = Unit {0}
SizedOne n running = Unit {0}
SizedOne n (done results) = length results ≡ n

pub set_all : (C : ℕ → Standing → Type 0) (l : List Standing) (t : ℕ) (x : Standing) → C t x → ((j : ℕ) → C j (get_or l j idle)) → (j : ℕ) → C j (get_or (set l t x) j idle)
set_all C [] t x w h j = h j
set_all C (a ∷ l) zero x w h zero = w
set_all C (a ∷ l) zero x w h (suc j) = h (suc j)
set_all C (a ∷ l) (suc t) x w h zero = h zero
set_all C (a ∷ l) (suc t) x w h (suc j) = set_all (λ i. C (suc i)) l t x w (λ i. h (suc i)) j

module _ (M : Module) where
  pub record Fit (s : Store) : Type 0 where
    pub long : length s.ports ≡ ports M
    pub sized : (j : ℕ) → SizedOne (output_count M j) (get_or s.tasks j idle)

  pub fit-sensed : (readings : List ℕ) (s : Store) → Fit s → Fit (sensed M readings s)
  fit-sensed readings s f = record { long = place-length 0 readings s.ports ∙ f.long; sized = f.sized }

  fit-done : (t : ℕ) (results : List ℕ) (s : Store) → Fit s → Fit (record { ports = place (outputs_of M t) results s.ports; tasks = set s.tasks t idle })
  fit-done t results s f = record { long = place-length (outputs_of M t) results s.ports ∙ f.long; sized = set_all (λ j. SizedOne (output_count M j)) s.tasks t idle tt f.sized }

  -- one termination that comes about, by the task's standing
  pub data Ending (t : ℕ) (s w : Store) : Type 0 where
    not-out : get_or s.tasks t idle ≡ idle → s ≡ w → Ending t s w
    handed-over : (results : List ℕ) → get_or s.tasks t idle ≡ done results → record { ports = place (outputs_of M t) results s.ports; tasks = set s.tasks t idle } ≡ w → Ending t s w

  pub ending : (t : ℕ) (s w : Store) → ended M t s (get_or s.tasks t idle) ≡ well w → Ending t s w
  ending t s w q = go (get_or s.tasks t idle) refl
    where
      go : (x : Standing) → get_or s.tasks t idle ≡ x → Ending t s w
      go idle e = not-out e (cc (rw e at q))
      go ready e = let z : ◌≡◌ {A = ℕ} 0 1 = cc (rw e at q) in absurd (omega arith)
      go running e = let z : ◌≡◌ {A = ℕ} 0 1 = cc (rw e at q) in absurd (omega arith)
      go (done results) e = handed-over results e (cc (rw e at q))

  fit-ending : (t : ℕ) (s w : Store) → Ending t s w → Fit s → Fit w
  fit-ending t s w (not-out e h) f = rw (← h) f
  fit-ending t s w (handed-over results e h) f = rw (← h) (fit-done t results s f)

  pub fit-terminations : (acts : List (Act Call)) (s v : Store) → terminations M acts s ≡ well v → Fit s → Fit v
  fit-terminations [] s v q f = let e : s ≡ v = cc in rw (← e) f
  fit-terminations (a ∷ acts) s v q f = let (w, e, r) = split M a acts s v q in fit-terminations acts w v r (fit-ending a.what.task s w (ending a.what.task s w e) f)

  updates-length : (acts : List (Act Update)) (l : List ℕ) → length (updates M acts l) ≡ length l
  updates-length [] l = refl
  updates-length (a ∷ acts) l = updates-length acts (cond (passes M a.guard l) (updated M a.what l) l) ∙ go (passes M a.guard l)
    where
      go : (y : Bool) → length (cond y (updated M a.what l) l) ≡ length l
      go true = length-set l a.what.target (get_or l a.what.source 0)
      go false = refl

  pub fit-releases : (acts : List (Act Call)) (s : Store) → Fit s → Fit (releases M acts s)
  fit-releases [] s f = f
  fit-releases (a ∷ acts) s f = fit-releases acts (cond (passes M a.guard s.ports) (begun M a.what s) s) (go (passes M a.guard s.ports))
    where
      go : (y : Bool) → Fit (cond y (begun M a.what s) s)
      go true = record { long = copy-length (inputs_of M a.what.task) a.what.sources s.ports ∙ f.long; sized = set_all (λ j. SizedOne (output_count M j)) s.tasks a.what.task ready tt f.sized }
      go false = f

  fit-came : (k t : ℕ) (readings : List ℕ) (s : Store) (at : Place) → Came M k t readings s at → Fit s → Fit at.store
  fit-came k t readings s at c f =
      let f1 = fit-terminations (closing (mode_at M k).period t (mode_at M k).calls) (sensed M readings s) c.ended c.terms (fit-sensed readings s f) in
      let f2 : Fit (updated_at M k t c.ended) = record { long = updates-length (closing (mode_at M k).period t (mode_at M k).updates) c.ended.ports ∙ f1.long; sized = f1.sized } in
      subst Fit (sym c.store) (fit-releases (beginning_there M at) (updated_at M k t c.ended) f2)

  pub fit-instant : (k t : ℕ) (readings : List ℕ) (s : Store) (at : Place) → instant M k t readings s ≡ well at → Fit s → Fit at.store
  fit-instant k t readings s at e f = fit-came k t readings s at (instant-came M k t readings s at e) f

  -- ---- one port, step by step

  module _ (i : ℕ) where
    -- the ports that a step writes do not have i among them
    abbrev pub Off : ℕ → ℕ → Type 0
    Off from count = (i < from) ⊎ (from + count ≤ i)

    place-off : (from : ℕ) (words l : List ℕ) → Off from (length words) → get_or (place from words l) i 0 ≡ get_or l i 0
    place-off from words l (inl h) = place-below from i words l h
    place-off from words l (inr h) = place-above from i words l h

    copy-off : (from : ℕ) (sources l : List ℕ) → Off from (length sources) → get_or (copy_to from sources l) i 0 ≡ get_or l i 0
    copy-off from sources l (inl h) = copy-below from i sources l h
    copy-off from sources l (inr h) = copy-above from i sources l h

    pub terminations-off : ((t : ℕ) → Off (outputs_of M t) (output_count M t)) → (acts : List (Act Call)) (s v : Store) → Fit s → terminations M acts s ≡ well v → get_or v.ports i 0 ≡ get_or s.ports i 0
    terminations-off off [] s v f q = let e : s ≡ v = cc in rw (← e) refl
    terminations-off off (a ∷ acts) s v f q =
        let (w, e, r) = split M a acts s v q in
        let n = ending a.what.task s w e in
        terminations-off off acts w v (fit-ending a.what.task s w n f) r ∙ go w n
      where
        go : (w : Store) → Ending a.what.task s w → get_or w.ports i 0 ≡ get_or s.ports i 0
        go w (not-out e h) = rw (← h) refl
        go w (handed-over results e h) =
            let n : length results ≡ output_count M a.what.task = subst (SizedOne (output_count M a.what.task)) e (f.sized a.what.task) in
            rw (← h) (place-off (outputs_of M a.what.task) results s.ports (rw n (off a.what.task)))

    pub updates-off : (acts : List (Act Update)) (l : List ℕ) → among i (targets_of acts) ≡ false → get_or (updates M acts l) i 0 ≡ get_or l i 0
    updates-off [] l h = refl
    updates-off (a ∷ acts) l h =
        let (n, r) = or-false (eqb i a.what.target) (among i (targets_of acts)) h in
        updates-off acts (cond (passes M a.guard l) (updated M a.what l) l) r ∙ go (passes M a.guard l) (eqb-false i a.what.target n)
      where
        go : (y : Bool) → (i ≢ a.what.target) → get_or (cond y (updated M a.what l) l) i 0 ≡ get_or l i 0
        go true ne = get_or-set_other l a.what.target i (get_or l a.what.source 0) 0 ne
        go false ne = refl

    -- of all that are released, none writes i
    pub releases-off : (released : List ℕ) (acts : List (Act Call)) (s : Store) → ((t : ℕ) → among t (released_by M acts s) ≡ true → among t released ≡ true)
        → Each (λ a. among a.what.task released ≡ true → Off (inputs_of M a.what.task) (length a.what.sources)) acts → get_or (releases M acts s).ports i 0 ≡ get_or s.ports i 0
    releases-off released [] s sub w = refl
    releases-off released (a ∷ acts) s sub w =
        go (passes M a.guard s.ports) sub (λ h. releases-off released acts (begun M a.what s) h w.1) (λ h. releases-off released acts s h w.1)
      where
        go : (y : Bool)
            → ((t : ℕ) → among t (cond y (a.what.task ∷ released_by M acts (cond y (begun M a.what s) s)) (released_by M acts (cond y (begun M a.what s) s))) ≡ true → among t released ≡ true)
            → (((t : ℕ) → among t (released_by M acts (begun M a.what s)) ≡ true → among t released ≡ true) → get_or (releases M acts (begun M a.what s)).ports i 0 ≡ get_or (begun M a.what s).ports i 0)
            → (((t : ℕ) → among t (released_by M acts s) ≡ true → among t released ≡ true) → get_or (releases M acts s).ports i 0 ≡ get_or s.ports i 0)
            → get_or (releases M acts (cond y (begun M a.what s) s)).ports i 0 ≡ get_or s.ports i 0
        go true h on off =
            on (λ t k. h t (or_right (eqb t a.what.task) (among t (released_by M acts (begun M a.what s))) k))
            ∙ copy-off (inputs_of M a.what.task) a.what.sources s.ports
            (w.0 (h a.what.task (or_left (eqb a.what.task a.what.task) (among a.what.task (released_by M acts (begun M a.what s))) (eq-eqb a.what.task a.what.task refl))))
        go false h on off = off h

  -- ---- an output: what a termination hands over

  -- whether the task's slot ends, its standing, the number of the output, and what the port held
  abbrev pub handed_over : Bool → Standing → ℕ → ℕ → ℕ
  handed_over false x n old = old
  handed_over true idle n old = old
  handed_over true ready n old = old
  handed_over true running n old = old
  handed_over true (done results) n old = get_or results n 0

  handed-idle : (y : Bool) (n old : ℕ) → handed_over y idle n old ≡ old
  handed-idle true n old = refl
  handed-idle false n old = refl

  module _ (task n : ℕ) (lt : n < output_count M task) where
    abbrev port : ℕ
    port = outputs_of M task + n

    pub terminations-hand : (acts : List (Act Call)) (s v : Store) → Fit s → terminations M acts s ≡ well v
        → get_or v.ports port 0 ≡ handed_over (among task (tasks_of acts)) (get_or s.tasks task idle) n (get_or s.ports port 0)
    terminations-hand [] s v f q = let e : s ≡ v = cc in rw (← e) refl
    terminations-hand (a ∷ acts) s v f q =
        let (w, e, r) = split M a acts s v q in
        let en = ending a.what.task s w e in
        terminations-hand acts w v (fit-ending a.what.task s w en f) r ∙ go w (ℕ_discrete task a.what.task) en (terminated M a.what.task s w e task)
      where
        go : (w : Store) → Dec (task ≡ a.what.task) → Ending a.what.task s w → (get_or w.tasks a.what.task idle ≡ idle) × ((task ≢ a.what.task) → get_or w.tasks task idle ≡ get_or s.tasks task idle)
            → handed_over (among task (tasks_of acts)) (get_or w.tasks task idle) n (get_or w.ports port 0)
            ≡ handed_over (eqb task a.what.task || among task (tasks_of acts)) (get_or s.tasks task idle) n (get_or s.ports port 0)
        go w (yes e) en t =
            let b = eq-eqb task a.what.task e in
            let i : get_or w.tasks task idle ≡ idle = rw e t.0 in
            rw (b, i) (handed-idle (among task (tasks_of acts)) n (get_or w.ports port 0) ∙ on en)
          where
            on : Ending a.what.task s w → get_or w.ports port 0 ≡ handed_over true (get_or s.tasks task idle) n (get_or s.ports port 0)
            on (not-out x h) = let x1 : get_or s.tasks task idle ≡ idle = rw e x in rw (x1, ← h) refl
            on (handed-over results x h) =
                let x1 : get_or s.tasks task idle ≡ done results = rw e x in
                let many : length results ≡ output_count M task = subst (SizedOne (output_count M task)) x1 (f.sized task) in
                let within = task-ports-within M task in
                let long = f.long in
                let p : get_or (place (outputs_of M task) results s.ports) port 0 ≡ get_or results n 0 = place_inside (outputs_of M task) n results s.ports (omega arith) (omega arith) in
                rw (x1, ← h) (subst (λ (k : ℕ). get_or (place (outputs_of M k) results s.ports) port 0 ≡ get_or results n 0) e p)
        go w (no ne) en t =
            let b = ne_eqb task a.what.task ne in
            rw (b, t.1 ne) (ap (handed_over (among task (tasks_of acts)) (get_or s.tasks task idle) n) (on en))
          where
            off : (outputs_of M a.what.task + output_count M a.what.task ≤ port) ⊎ (port < inputs_of M a.what.task) → Off port (outputs_of M a.what.task) (output_count M a.what.task)
            off (inl h) = inr h
            off (inr h) = inl (omega arith)

            on : Ending a.what.task s w → get_or w.ports port 0 ≡ get_or s.ports port 0
            on (not-out x h) = rw (← h) refl
            on (handed-over results x h) =
                let many : length results ≡ output_count M a.what.task = subst (SizedOne (output_count M a.what.task)) x (f.sized a.what.task) in
                rw (← h) (place-off port (outputs_of M a.what.task) results s.ports (rw many (off (apart M a.what.task task (λ e. ne (sym e)) port (omega arith) (omega arith)))))
