-- The ideal run, in which each task is finished as it is released: a means of proof for runs that differ in the order of finishing.
use Rattle.std.specs.Prelude.{ℕ, zero, suc, ◌+◌, ◌≡◌, ◌≢◌, Bool, true, false, cond, ◌||◌, length, get_or, set, eqb}
use Rattle.std.proofs.Common.{arith, sym, ◌∙◌, ap, get_or-set_other, eq-eqb, ne_eqb}
use Rattle.std.proofs.Math.Decide.{ℕ_discrete}
use Rattle.std.proofs.Math.Path.{refl, subst}
use Rattle.std.proofs.Math.Option.{Option, none, some}
use mathlib.Core.List.{List, [], ◌∷◌}
use Rattle.model.specs.Modules.{Module, Act, Call}
use Rattle.timing.specs.Slots.{closing, opening}
use Rattle.timing.specs.Rules.{Standing, idle, ready, running, done, Store, Outcome, well, late, Place, mode_at, passes, chosen, sensed, terminations, updates, begun, releases, released_by, entered, turned, instant}
use Rattle.timing.specs.Standings.{terminated, split}
use Rattle.timing.specs.Lates.{unfinished}
use Rattle.timing.specs.Orders.{among, stamped}
use Rattle.timing.specs.Twins.{Twin, Twins}

-- ---- every task that is out is finished, task n with f n

-- a task that is out is finished with results
abbrev pub finished_with : List ℕ → Standing → Standing
finished_with x idle = idle
finished_with x ready = done x
finished_with x running = done x
finished_with x (done y) = done y

-- every task that is out is finished with its results
abbrev pub settle : (ℕ → List ℕ) → ℕ → List Standing → List Standing
settle f n [] = []
settle f n (a ∷ l) = finished_with (f n) a ∷ settle f (suc n) l

settle-at : (f : ℕ → List ℕ) (n : ℕ) (l : List Standing) (j : ℕ) → get_or (settle f n l) j idle ≡ finished_with (f (n + j)) (get_or l j idle)
settle-at f n [] j = refl
settle-at f n (a ∷ l) zero = let e : n ≡ n + 0 = omega arith in ap (λ (i : ℕ). finished_with (f i) a) e
settle-at f n (a ∷ l) (suc j) = let e : suc n + j ≡ n + suc j = omega arith in settle-at f (suc n) l j ∙ ap (λ (i : ℕ). finished_with (f i) (get_or l j idle)) e

pub settle-length : (f : ℕ → List ℕ) (n : ℕ) (l : List Standing) → length (settle f n l) ≡ length l
settle-length f n [] = refl
settle-length f n (a ∷ l) = ap suc (settle-length f (suc n) l)

-- ---- idle, or finished with x; or just released

-- a task is not out, or is finished with these results
abbrev pub KeptOne : List ℕ → Standing → Type 0
KeptOne x idle = Unit {0}
KeptOne x ready = ⊥
KeptOne x running = ⊥
KeptOne x (done y) = y ≡ x

abbrev PartOne : List ℕ → Bool → Standing → Type 0
PartOne x new idle = Unit {0}
PartOne x new ready = new ≡ true
PartOne x new running = ⊥
PartOne x new (done y) = (new ≡ false) × (y ≡ x)

-- So of every task; f says with what, new which are just released.
abbrev pub Kept : (ℕ → List ℕ) → List Standing → Type 0
Kept f l = (j : ℕ) → KeptOne (f j) (get_or l j idle)

-- each task has its results, or is new
abbrev pub Part : (ℕ → List ℕ) → (ℕ → Bool) → List Standing → Type 0
Part f new l = (j : ℕ) → PartOne (f j) (new j) (get_or l j idle)

pub kept_fine : (x : List ℕ) (a : Standing) → KeptOne x a → unfinished a ≡ false
kept_fine x idle k = refl
kept_fine x ready k = absurd k
kept_fine x running k = absurd k
kept_fine x (done y) k = refl

kept-part : (x : List ℕ) (a : Standing) → KeptOne x a → PartOne x false a
kept-part x idle k = tt
kept-part x ready k = absurd k
kept-part x running k = absurd k
kept-part x (done y) k = (refl, k)

part-kept : (x z : List ℕ) (new : Bool) (a : Standing) → PartOne x new a → KeptOne (cond new z x) (finished_with z a)
part-kept x z new idle k = tt
part-kept x z new ready k = rw k refl
part-kept x z new running k = absurd k
part-kept x z new (done y) k = let e = k.0 in rw e k.1

-- ---- twins of it

twin-finished : (x : List ℕ) (a b : Standing) → Twin a b → Twin a (finished_with x b)
twin-finished x a idle t = t
twin-finished x a (done y) t = t
twin-finished x ready ready t = tt
twin-finished x idle ready t = absurd t
twin-finished x running ready t = absurd t
twin-finished x (done y) ready t = absurd t
twin-finished x idle running t = absurd t
twin-finished x ready running t = absurd t
twin-finished x running running t = absurd t
twin-finished x (done y) running t = absurd t

pub twin-handed : (x : List ℕ) (a : Standing) → Twin ready a → KeptOne x a → Twin running a
twin-handed x idle t k = absurd t
twin-handed x ready t k = absurd k
twin-handed x running t k = absurd t
twin-handed x (done y) t k = tt

pub twin-done : (x z : List ℕ) (a : Standing) → Twin running a → KeptOne z a → x ≡ z → Twin (done x) a
twin-done x z idle t k e = absurd t
twin-done x z ready t k e = absurd t
twin-done x z running t k e = absurd t
twin-done x z (done y) t k e = e ∙ sym k

pub settle-twins : (f : ℕ → List ℕ) (s q : Store) → Twins s q → Twins s (record { ports = q.ports; tasks = settle f 0 q.tasks })
settle-twins f s q T =
    record {
      same-ports = T.same-ports;
      same_size = T.same_size ∙ sym (settle-length f 0 q.tasks);
      each = λ j. subst (Twin (get_or s.tasks j idle)) (sym (settle-at f 0 q.tasks j)) (twin-finished (f (0 + j)) (get_or s.tasks j idle) (get_or q.tasks j idle) (T.each j));
    }

-- ---- what is kept through an instant

set-ready : (x : List ℕ) (new : Bool) (l : List Standing) (t : ℕ) → new ≡ true → PartOne x new (get_or (set l t ready) t idle)
set-ready x new [] t e = tt
set-ready x new (a ∷ l) zero e = e
set-ready x new (a ∷ l) (suc t) e = set-ready x new l t e

part-set : (f : ℕ → List ℕ) (new : ℕ → Bool) (l : List Standing) (t : ℕ) → Part f new l → Part f (λ j. eqb j t || new j) (set l t ready)
part-set f new l t h j = go (ℕ_discrete j t)
  where
    go : Dec (j ≡ t) → PartOne (f j) (eqb j t || new j) (get_or (set l t ready) j idle)
    go (yes e) = let b = eq-eqb j t e in rw b (subst (λ (i : ℕ). PartOne (f j) true (get_or (set l t ready) i idle)) (sym e) (set-ready (f j) true l t refl))
    go (no n) = let b = ne_eqb j t n in rw (b, get_or-set_other l t j ready idle n) (h j)

swap : (x y z : Bool) → (x || (y || z)) ≡ ((y || x) || z)
swap true true z = refl
swap true false z = refl
swap false true z = refl
swap false false z = refl

or-false : (x : Bool) → (x || false) ≡ x
or-false true = refl
or-false false = refl

module _ (M : Module) (f : ℕ → List ℕ) where
  part-released : (acts : List (Act Call)) (s : Store) (new : ℕ → Bool) → Part f new s.tasks → Part f (λ j. among j (released_by M acts s) || new j) (releases M acts s).tasks
  part-released [] s new h = h
  part-released (a ∷ acts) s new h =
      go (passes M a.guard s.ports) (part-released acts (begun M a.what s) (λ j. eqb j a.what.task || new j) (part-set f new s.tasks a.what.task h)) (part-released acts s new h)
    where
      go : (y : Bool)
          → Part f (λ j. among j (released_by M acts (begun M a.what s)) || (eqb j a.what.task || new j)) (releases M acts (begun M a.what s)).tasks
          → Part f (λ j. among j (released_by M acts s) || new j) (releases M acts s).tasks
          → Part f (λ j. among j (cond y (a.what.task ∷ released_by M acts (cond y (begun M a.what s) s)) (released_by M acts (cond y (begun M a.what s) s))) || new j)
          (releases M acts (cond y (begun M a.what s) s)).tasks
      go true on off j =
          subst (λ (b : Bool). PartOne (f j) b (get_or (releases M acts (begun M a.what s)).tasks j idle)) (swap (among j (released_by M acts (begun M a.what s))) (eqb j a.what.task) (new j)) (on j)
      go false on off j = off j

  pub part-entered : (k t : ℕ) (s : Store) → Part f (λ j. false) s.tasks → Part f (λ j. among j (entered M k t s).released) (entered M k t s).store.tasks
  unfolding entered
  part-entered k t s h j =
      let acts = opening (mode_at M k).period t (mode_at M k).calls in
      subst (λ (b : Bool). PartOne (f j) b (get_or (releases M acts s).tasks j idle)) (or-false (among j (released_by M acts s))) (part-released acts s (λ j. false) h j)

  part_turned : (k t : ℕ) (o : Option ℕ) (s : Store) → Part f (λ j. false) s.tasks → Part f (λ j. among j (turned M k t o s).released) (turned M k t o s).store.tasks
  part_turned k t none s h = part-entered k (cond (eqb t (mode_at M k).period) 0 t) s h
  part_turned k t (some target) s h = part-entered target 0 s h

  kept-terms : (acts : List (Act Call)) (s v : Store) → terminations M acts s ≡ well v → Kept f s.tasks → Kept f v.tasks
  kept-terms [] s v q h = let e : s ≡ v = cc in rw (← e) h
  kept-terms (a ∷ acts) s v q h = let (w, e, r) = split M a acts s v q in kept-terms acts w v r (λ j. go j w (terminated M a.what.task s w e j) (ℕ_discrete j a.what.task))
    where
      go : (j : ℕ) (w : Store) → (get_or w.tasks a.what.task idle ≡ idle) × ((j ≢ a.what.task) → get_or w.tasks j idle ≡ get_or s.tasks j idle) → Dec (j ≡ a.what.task) → KeptOne (f j) (get_or w.tasks j idle)
      go j w b (yes e) = let i : get_or w.tasks j idle ≡ idle = subst (λ (x : ℕ). get_or w.tasks x idle ≡ idle) (sym e) b.0 in rw i tt
      go j w b (no n) = subst (KeptOne (f j)) (sym (b.1 n)) (h j)

  -- After an instant: idle, or finished as before, or just released.
  pub part-instant : (k t : ℕ) (readings : List ℕ) (s : Store) (w : Place) → instant M k t readings s ≡ well w → Kept f s.tasks → Part f (λ j. among j w.released) w.store.tasks
  unfolding instant
  part-instant k t readings s w e h = go (terminations M ending (sensed M readings s)) refl
    where
      ending : List (Act Call)
      ending = closing (mode_at M k).period t (mode_at M k).calls

      go : (x : Outcome Store) → terminations M ending (sensed M readings s) ≡ x → Part f (λ j. among j w.released) w.store.tasks
      go (late x) a = let n : ◌≡◌ {A = ℕ} 0 1 = cc (rw a at e) in absurd (omega arith)
      go (well s1) a =
          let ports = updates M (closing (mode_at M k).period t (mode_at M k).updates) s1.ports in
          let o = chosen M (closing (mode_at M k).period t (mode_at M k).switches) ports in
          let s2 : Store = record { ports = ports; tasks = s1.tasks } in
          let h1 : turned M k t o s2 ≡ w = cc (rw a at e) in
          let k1 : Kept f s1.tasks = kept-terms ending (sensed M readings s) s1 a h in
          subst (λ (u : Place). Part f (λ j. among j u.released) u.store.tasks) h1 (part_turned k t o s2 (λ j. kept-part (f j) (get_or s1.tasks j idle) (k1 j)))

-- Settled with the results of tick i, what was released at i is finished with those.
pub settle-kept : (results : ℕ → ℕ → List ℕ) (i : ℕ) (since : ℕ → ℕ) (released : List ℕ) (l : List Standing) → Part (λ j. results (since j) j) (λ j. among j released) l
    → Kept (λ j. results (stamped i released since j) j) (settle (results i) 0 l)
settle-kept results i since released l h j =
    subst (KeptOne (results (stamped i released since j) j)) (sym (settle-at (results i) 0 l j)) (go (among j released) (part-kept (results (since j) j) (results i j) (among j released) (get_or l j idle) (h j)))
  where
    go : (new : Bool) → KeptOne (cond new (results i j) (results (since j) j)) (finished_with (results i j) (get_or l j idle)) → KeptOne (results (cond new i (since j)) j) (finished_with (results i (0 + j)) (get_or l j idle))
    go true k = let e : 0 + j ≡ j = omega arith in rw e k
    go false k = let e : 0 + j ≡ j = omega arith in rw e k
