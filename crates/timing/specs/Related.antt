-- Two stores with the same ports whose tasks stand in a relation C, one by one: what an instant keeps of it.
use Rattle.std.specs.Prelude.{ℕ, zero, suc, ◌≡◌, refl, Bool, true, false, cond, length, get_or, set, eqb}
use Rattle.std.proofs.Common.{arith, ap, subst, length-set}
use Rattle.std.proofs.Math.Option.{Option, none, some}
use mathlib.Core.List.{List, [], ◌∷◌}
use Rattle.model.specs.Modules.{Module, Act, Call, place, copy_to}
use Rattle.timing.specs.Slots.{closing, opening}
use Rattle.timing.specs.SlotLaws.{Each}
use Rattle.timing.specs.Rules.{Standing, idle, ready, Store, Outcome, well, late, and_then, Place, mode_at, inputs_of, passes, chosen, sensed, ended, terminations, updates, begun, releases, released_by, entered, turned, after_ends, instant}

set-each : (C : ℕ → Standing → Standing → Type 0) (l n : List Standing) (t : ℕ) (x y : Standing) → C t x y → length l ≡ length n → ((j : ℕ) → C j (get_or l j idle) (get_or n j idle))
    → (j : ℕ) → C j (get_or (set l t x) j idle) (get_or (set n t y) j idle)
set-each C [] [] t x y w e h j = h j
set-each C [] (b ∷ n) t x y w e h j = absurd (omega arith)
set-each C (a ∷ l) [] t x y w e h j = absurd (omega arith)
set-each C (a ∷ l) (b ∷ n) zero x y w e h zero = w
set-each C (a ∷ l) (b ∷ n) zero x y w e h (suc j) = h (suc j)
set-each C (a ∷ l) (b ∷ n) (suc t) x y w e h zero = h zero
set-each C (a ∷ l) (b ∷ n) (suc t) x y w e h (suc j) = set-each (λ i. C (suc i)) l n t x y w (omega arith) (λ i. h (suc i)) j

module _ (C : ℕ → Standing → Standing → Type 0) where
  pub record Rel (s q : Store) : Type 0 where
    pub same-ports : s.ports ≡ q.ports
    pub same_size : length s.tasks ≡ length q.tasks
    pub each : (j : ℕ) → C j (get_or s.tasks j idle) (get_or q.tasks j idle)

  pub record Same (w z : Place) : Type 0 where
    pub same-mode : w.mode ≡ z.mode
    pub same-time : w.time ≡ z.time
    pub same-released : w.released ≡ z.released
    pub rel : Rel w.store z.store

  pub put : (t : ℕ) (x y : Standing) (p r : List ℕ) (s q : Store) → p ≡ r → C t x y → Rel s q → Rel (record { ports = p; tasks = set s.tasks t x }) (record { ports = r; tasks = set q.tasks t y })
  put t x y p r s q e w S = record { same-ports = e; same_size = simp length-set S.same_size; each = set-each C s.tasks q.tasks t x y w S.same_size S.each }

  pub with-ports : (p r : List ℕ) (s q : Store) → p ≡ r → Rel s q → Rel (record { ports = p; tasks = s.tasks }) (record { ports = r; tasks = q.tasks })
  with-ports p r s q e S = record { same-ports = e; same_size = S.same_size; each = S.each }

-- Both come about, and so; or one only; or none.
abbrev pub OnBoth : {A : Type 0} → Type 0 → (ℕ → ℕ → Type 0) → (A → A → Type 0) → Outcome A → Outcome A → Type 0
OnBoth Odd Lates F (well a) (well b) = F a b
OnBoth Odd Lates F (well a) (late y) = Odd
OnBoth Odd Lates F (late x) (well b) = Odd
OnBoth Odd Lates F (late x) (late y) = Lates x y

module _ (Odd : Type 0) (Lates : ℕ → ℕ → Type 0) (odd : Odd → (x y : ℕ) → Lates x y) where
  one-late : {B : Type 0} (F : B → B → Type 0) (a : Outcome B) (y : ℕ) → Odd → OnBoth Odd Lates F a (late y) × OnBoth Odd Lates F (late y) a
  one-late F (well a) y h = (h, h)
  one-late F (late x) y h = (odd h x y, odd h y x)

  on_then : {A B : Type 0} (C : A → A → Type 0) (F : B → B → Type 0) (a b : Outcome A) (f : A → Outcome B) → OnBoth Odd Lates C a b → ((x y : A) → C x y → OnBoth Odd Lates F (f x) (f y)) → OnBoth Odd Lates F (and_then a f) (and_then b f)
  on_then C F (well a) (well b) f h k = k a b h
  on_then C F (well a) (late y) f h k = (one-late F (f a) y h).0
  on_then C F (late x) (well b) f h k = (one-late F (f b) x h).1
  on_then C F (late x) (late y) f h k = h

module _ (M : Module) (C : ℕ → Standing → Standing → Type 0) (r : (t : ℕ) → C t ready ready) where
  begun-rel : (c : Call) (s q : Store) → Rel C s q → Rel C (begun M c s) (begun M c q)
  begun-rel c s q S = put C c.task ready ready _ _ s q (ap (copy_to (inputs_of M c.task) c.sources) S.same-ports) (r c.task) S

  -- Releases of both: alike, and of the same tasks.
  pub record Released (acts : List (Act Call)) (s q : Store) : Type 0 where
    pub rel : Rel C (releases M acts s) (releases M acts q)
    pub same-released : released_by M acts s ≡ released_by M acts q

  pub releases-rel : (acts : List (Act Call)) (s q : Store) → Rel C s q → Released acts s q
  releases-rel [] s q S = record { rel = S; same-released = refl }
  releases-rel (a ∷ acts) s q S =
      go (passes M a.guard s.ports) (passes M a.guard q.ports) refl refl (ap (passes M a.guard) S.same-ports) (releases-rel acts (begun M a.what s) (begun M a.what q) (begun-rel a.what s q S)) (releases-rel acts s q S)
    where
      go : (x y : Bool) → passes M a.guard s.ports ≡ x → passes M a.guard q.ports ≡ y → passes M a.guard s.ports ≡ passes M a.guard q.ports
          → Released acts (begun M a.what s) (begun M a.what q) → Released acts s q → Released (a ∷ acts) s q
      go true true e f same h k = record { rel = rw (e, f) h.rel; same-released = rw (e, f) (ap (λ (l : List ℕ). a.what.task ∷ l) h.same-released) }
      go false false e f same h k = record { rel = rw (e, f) k.rel; same-released = rw (e, f) k.same-released }
      go true false e f same h k = let z : ◌≡◌ {A = ℕ} 0 1 = cc in absurd (omega arith)
      go false true e f same h k = let z : ◌≡◌ {A = ℕ} 0 1 = cc in absurd (omega arith)

  pub entered-rel : (k t : ℕ) (s q : Store) → Rel C s q → Same C (entered M k t s) (entered M k t q)
  unfolding entered
  entered-rel k t s q S = let h = releases-rel (opening (mode_at M k).period t (mode_at M k).calls) s q S in record { same-mode = refl; same-time = refl; same-released = h.same-released; rel = h.rel }

  turned-rel : (k t : ℕ) (o : Option ℕ) (s q : Store) → Rel C s q → Same C (turned M k t o s) (turned M k t o q)
  turned-rel k t none s q S = entered-rel k (cond (eqb t (mode_at M k).period) 0 t) s q S
  turned-rel k t (some j) s q S = entered-rel j 0 s q S

  after-rel : (k t : ℕ) (s q : Store) → Rel C s q → Same C (after_ends M k t s) (after_ends M k t q)
  after-rel k t s q S =
      let m = mode_at M k in
      let up : List ℕ → List ℕ = λ p. updates M (closing m.period t m.updates) p in
      let o : List ℕ → Option ℕ = λ p. chosen M (closing m.period t m.switches) (updates M (closing m.period t m.updates) p) in
      subst (λ (p : List ℕ). Same C (after_ends M k t s) (turned M k t (o p) (record { ports = up q.ports; tasks = q.tasks }))) S.same-ports
      (turned-rel k t (o s.ports) (record { ports = up s.ports; tasks = s.tasks }) (record { ports = up q.ports; tasks = q.tasks }) (with-ports C (up s.ports) (up q.ports) s q (ap up S.same-ports) S))

  -- Of the tasks of A it is known what a termination of both comes to.
  module _ (Odd : Type 0) (Lates : ℕ → ℕ → Type 0) (odd : Odd → (x y : ℕ) → Lates x y) (A : ℕ → Type 0)
      (known : (t : ℕ) → A t → (x y : Standing) → C t x y → (s q : Store) → Rel C s q → OnBoth Odd Lates (Rel C) (ended M t s x) (ended M t q y)) where
    terminations-rel : (acts : List (Act Call)) (s q : Store) → Each (λ a. A a.what.task) acts → Rel C s q → OnBoth Odd Lates (Rel C) (terminations M acts s) (terminations M acts q)
    terminations-rel [] s q d S = S
    terminations-rel (a ∷ acts) s q d S =
        on_then Odd Lates odd (Rel C) (Rel C) (ended M a.what.task s (get_or s.tasks a.what.task idle)) (ended M a.what.task q (get_or q.tasks a.what.task idle)) (terminations M acts)
        (known a.what.task d.0 (get_or s.tasks a.what.task idle) (get_or q.tasks a.what.task idle) (S.each a.what.task) s q S) (λ x y T. terminations-rel acts x y d.1 T)

    -- One instant of both, on the same readings.
    pub instant-rel : (k t : ℕ) (readings : List ℕ) (s q : Store) → Each (λ a. A a.what.task) (closing (mode_at M k).period t (mode_at M k).calls) → Rel C s q
        → OnBoth Odd Lates (Same C) (instant M k t readings s) (instant M k t readings q)
    unfolding instant
    instant-rel k t readings s q d S =
        on_then Odd Lates odd (Rel C) (Same C) (terminations M ending (sensed M readings s)) (terminations M ending (sensed M readings q)) (λ v. well (after_ends M k t v))
        (terminations-rel ending (sensed M readings s) (sensed M readings q) d (with-ports C _ _ s q (ap (place 0 readings) S.same-ports) S)) (λ x y T. after-rel k t x y T)
      where
        ending : List (Act Call)
        ending = closing (mode_at M k).period t (mode_at M k).calls
