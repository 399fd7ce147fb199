-- Which tasks are released at an instant: those whose slot begins then and whose guard holds.
use Rattle.std.specs.Prelude.{ℕ, Bool, true, false, cond, List, [], ◌∷◌, ◌++◌, set, eqb}
use Rattle.std.proofs.Common.{arith, sym, ap, eqb-true, eq-eqb}
use Rattle.std.proofs.Math.Path.{◌≡◌, refl, subst}
use Rattle.std.proofs.Math.Option.{Option, none, some}
use Rattle.model.specs.Modules.{Module, Act, Call}
use Rattle.timing.specs.Slots.{closing, opening}
use Rattle.timing.specs.SlotLaws.{or_elim, or_left, or_right}
use Rattle.timing.specs.Rules.{Standing, ready, Store, Outcome, well, late, Place, mode_at, passes, chosen, sensed, terminations, updates, begun, releases, released_by, entered, turned, after_ends, instant}
use Rattle.timing.specs.Calls.{Ask, reacted, View, beginning, started, ask}
use Rattle.timing.specs.Ticks.{meaning}
use Rattle.timing.specs.Orders.{among}

-- these tasks released, the first first
abbrev pub readied : List ℕ → List Standing → List Standing
readied [] tasks = tasks
readied (task ∷ rest) tasks = readied rest (set tasks task ready)

module _ (M : Module) where
  -- ---- in a row of invocations

  -- Its guard is asked on the ports as the releases before it left them.
  pub record ReleasedAt (acts : List (Act Call)) (s : Store) (task : ℕ) : Type 0 where
    pub before : List (Act Call)
    pub act : Act Call
    pub after : List (Act Call)
    pub row : acts ≡ before ++ (act ∷ after)
    pub names : act.what.task ≡ task
    pub holds : passes M act.guard (releases M before s).ports ≡ true

  later-at : (a : Act Call) (acts : List (Act Call)) (s v : Store) (task : ℕ) → cond (passes M a.guard s.ports) (begun M a.what s) s ≡ v → ReleasedAt acts v task → ReleasedAt (a ∷ acts) s task
  later-at a acts s v task e r =
      record {
        before = a ∷ r.before;
        act = r.act;
        after = r.after;
        row = ap (λ (l : List (Act Call)). a ∷ l) r.row;
        names = r.names;
        holds = subst (λ (x : Store). passes M r.act.guard (releases M r.before x).ports ≡ true) (sym e) r.holds;
      }

  -- Every task released is so, and every task that is so is released.
  pub released-only : (acts : List (Act Call)) (s : Store) (task : ℕ) → among task (released_by M acts s) ≡ true → ReleasedAt acts s task
  released-only [] s task h = let z : ◌≡◌ {A = ℕ} 0 1 = cc in absurd (omega arith)
  released-only (a ∷ acts) s task h =
      go (passes M a.guard s.ports) refl h (λ k. released-only acts (begun M a.what s) task k) (λ k. released-only acts s task k)
    where
      go : (y : Bool) → passes M a.guard s.ports ≡ y
          → among task (cond y (a.what.task ∷ released_by M acts (cond y (begun M a.what s) s)) (released_by M acts (cond y (begun M a.what s) s))) ≡ true
          → (among task (released_by M acts (begun M a.what s)) ≡ true → ReleasedAt acts (begun M a.what s) task)
          → (among task (released_by M acts s) ≡ true → ReleasedAt acts s task) → ReleasedAt (a ∷ acts) s task
      go true e k on off =
          or_elim (eqb task a.what.task) (among task (released_by M acts (begun M a.what s))) k
          (λ q. record { before = []; act = a; after = acts; row = refl; names = sym (eqb-true task a.what.task q); holds = e })
          (λ q. later-at a acts s (begun M a.what s) task (rw e refl) (on q))
      go false e k on off = later-at a acts s s task (rw e refl) (off k)

  all_in : (before after : List (Act Call)) (a : Act Call) (s : Store) → passes M a.guard (releases M before s).ports ≡ true → among a.what.task (released_by M (before ++ (a ∷ after)) s) ≡ true
  all_in [] after a s h = rw h (or_left (eqb a.what.task a.what.task) (among a.what.task (released_by M after (begun M a.what s))) (eq-eqb a.what.task a.what.task refl))
  all_in (b ∷ before) after a s h = go (passes M b.guard s.ports) refl (all_in before after a (cond (passes M b.guard s.ports) (begun M b.what s) s) h)
    where
      go : (y : Bool) → passes M b.guard s.ports ≡ y → among a.what.task (released_by M (before ++ (a ∷ after)) (cond (passes M b.guard s.ports) (begun M b.what s) s)) ≡ true
          → among a.what.task (released_by M (b ∷ (before ++ (a ∷ after))) s) ≡ true
      go true e k = rw e (or_right (eqb a.what.task b.what.task) (among a.what.task (released_by M (before ++ (a ∷ after)) (begun M b.what s))) (rw e at k))
      go false e k = rw e (rw e at k)

  pub released-all : (acts : List (Act Call)) (s : Store) (task : ℕ) → ReleasedAt acts s task → among task (released_by M acts s) ≡ true
  released-all acts s task r =
      subst (λ (l : List (Act Call)). among task (released_by M l s) ≡ true) (sym r.row) (subst (λ (t : ℕ). among t (released_by M (r.before ++ (r.act ∷ r.after)) s) ≡ true) r.names (all_in r.before r.after r.act s r.holds))

  -- They are ready, and no other standing changes.
  pub releases-ready : (acts : List (Act Call)) (s : Store) → (releases M acts s).tasks ≡ readied (released_by M acts s) s.tasks
  releases-ready [] s = refl
  releases-ready (a ∷ acts) s = go (passes M a.guard s.ports) (releases-ready acts (begun M a.what s)) (releases-ready acts s)
    where
      go : (y : Bool) → (releases M acts (begun M a.what s)).tasks ≡ readied (released_by M acts (begun M a.what s)) (begun M a.what s).tasks
          → (releases M acts s).tasks ≡ readied (released_by M acts s) s.tasks
          → (releases M acts (cond y (begun M a.what s) s)).tasks
          ≡ readied (cond y (a.what.task ∷ released_by M acts (cond y (begun M a.what s) s)) (released_by M acts (cond y (begun M a.what s) s))) s.tasks
      go true on off = on
      go false on off = off

  -- ---- at an instant, and at the start

  -- the invocations of the place's mode whose slot begins at its time
  abbrev pub beginning_there : Place → List (Act Call)
  beginning_there at = opening (mode_at M at.mode).period at.time (mode_at M at.mode).calls

  -- A place just entered: its releases are those of the slots that begin there.
  pub record Entered (at : Place) : Type 0 where
    pub from : Store
    pub store : at.store ≡ releases M (beginning_there at) from
    pub released : at.released ≡ released_by M (beginning_there at) from

  -- the store once the updates of the slots that end are done
  abbrev pub updated_at : ℕ → ℕ → Store → Store
  updated_at k t s = record { ports = updates M (closing (mode_at M k).period t (mode_at M k).updates) s.ports; tasks = s.tasks }

  -- An instant that comes about, step by step: terminations, updates, releases.
  pub record Came (k t : ℕ) (readings : List ℕ) (s : Store) (at : Place) : Type 0 where
    pub ended : Store
    pub terms : terminations M (closing (mode_at M k).period t (mode_at M k).calls) (sensed M readings s) ≡ well ended
    pub store : at.store ≡ releases M (beginning_there at) (updated_at k t ended)
    pub released : at.released ≡ released_by M (beginning_there at) (updated_at k t ended)

  entered-came : (k t : ℕ) (readings : List ℕ) (s ended : Store) → terminations M (closing (mode_at M k).period t (mode_at M k).calls) (sensed M readings s) ≡ well ended
      → (j u : ℕ) → Came k t readings s (entered M j u (updated_at k t ended))
  unfolding entered
  entered-came k t readings s v q j u = record { ended = v; terms = q; store = refl; released = refl }

  turned-came : (k t : ℕ) (readings : List ℕ) (s ended : Store) → terminations M (closing (mode_at M k).period t (mode_at M k).calls) (sensed M readings s) ≡ well ended
      → (o : Option ℕ) → Came k t readings s (turned M k t o (updated_at k t ended))
  turned-came k t readings s v q none = entered-came k t readings s v q k (cond (eqb t (mode_at M k).period) 0 t)
  turned-came k t readings s v q (some target) = entered-came k t readings s v q target 0

  pub instant-came : (k t : ℕ) (readings : List ℕ) (s : Store) (at : Place) → instant M k t readings s ≡ well at → Came k t readings s at
  unfolding instant
  instant-came k t readings s at e = go (terminations M (closing (mode_at M k).period t (mode_at M k).calls) (sensed M readings s)) refl
    where
      go : (x : Outcome Store) → terminations M (closing (mode_at M k).period t (mode_at M k).calls) (sensed M readings s) ≡ x → Came k t readings s at
      go (late x) a = let n : ◌≡◌ {A = ℕ} 0 1 = cc (rw a at e) in absurd (omega arith)
      go (well v) a =
          let h : after_ends M k t v ≡ at = cc (rw a at e) in
          subst (Came k t readings s) h (turned-came k t readings s v a (chosen M (closing (mode_at M k).period t (mode_at M k).switches) (updated_at k t v).ports))

  -- the start: from the beginning, the readings taken
  pub start-came : (count : ℕ) (words : List ℕ)
      → ((started M count words).place.store ≡ releases M (beginning_there (started M count words).place) (sensed M words (beginning M)))
      × ((started M count words).place.released ≡ released_by M (beginning_there (started M count words).place) (sensed M words (beginning M)))
  unfolding started entered
  start-came count words = (refl, refl)

  pub start-there : (count : ℕ) (words : List ℕ) → Entered (started M count words).place
  start-there count words = let c = start-came count words in record { from = sensed M words (beginning M); store = c.0; released = c.1 }

  -- The tasks released at a due tick are those whose slot begins then, in the mode that is entered, and whose guard holds.
  pub releases-at-due : (a : Ask) (v : View) → (ask M a v).reply ≡ reacted → Entered (ask M a v).view.place
  releases-at-due a v e =
      let m = meaning M v a reacted e in
      let c = instant-came v.place.mode _ m.words v.place.store m.at m.comes in
      subst (λ (u : View). Entered u.place) (sym m.shows) (record { from = updated_at v.place.mode _ c.ended; store = c.store; released = c.released })

  pub released-exactly : (at : Place) (E : Entered at) (task : ℕ)
      → (among task at.released ≡ true → ReleasedAt (beginning_there at) E.from task) × (ReleasedAt (beginning_there at) E.from task → among task at.released ≡ true)
  released-exactly at E task =
      ((λ h. released-only (beginning_there at) E.from task (rw E.released at h)), (λ r. rw E.released (released-all (beginning_there at) E.from task r)))
