-- Two stores that differ only in how far the tasks that are out have come react alike.
use Rattle.std.specs.Prelude.{ℕ, zero, suc, ◌≡◌, refl, List, [], ◌∷◌, length, get_or, set}
use Rattle.std.proofs.Common.{arith, ap₂, subst}
use Rattle.model.specs.Modules.{Module, Act, Call, place}
use Rattle.timing.specs.Slots.{closing}
use Rattle.timing.specs.SlotLaws.{Each}
use Rattle.timing.specs.Rules.{Standing, idle, ready, running, done, Store, Outcome, well, Place, mode_at, outputs_of, ended, instant}
use Rattle.timing.specs.Standings.{is_out, which_out}
use Rattle.timing.specs.Related.{Rel, Same, OnBoth, put, instant-rel}

-- of one task: on the left a run, on the right one in which it has come further
abbrev pub Twin : Standing → Standing → Type 0
Twin idle idle = Unit {0}
Twin idle ready = ⊥
Twin idle running = ⊥
Twin idle (done y) = ⊥
Twin ready idle = ⊥
Twin ready ready = Unit {0}
Twin ready running = ⊥
Twin ready (done y) = Unit {0}
Twin running idle = ⊥
Twin running ready = ⊥
Twin running running = ⊥
Twin running (done y) = Unit {0}
Twin (done x) idle = ⊥
Twin (done x) ready = ⊥
Twin (done x) running = ⊥
Twin (done x) (done y) = x ≡ y

-- two stores with the same ports and standings alike
abbrev pub Twins : Store → Store → Type 0
Twins s q = Rel (λ j. Twin) s q

abbrev InTime : {A : Type 0} → (A → A → Type 0) → Outcome A → Outcome A → Type 0
InTime F a b = OnBoth (Unit {0}) (λ x y. Unit {0}) F a b

module _ (M : Module) where
  ended-twins : (t : ℕ) → Unit {0} → (x y : Standing) → Twin x y → (s q : Store) → Twins s q → InTime Twins (ended M t s x) (ended M t q y)
  ended-twins t u idle idle w s q S = S
  ended-twins t u idle ready w s q S = absurd w
  ended-twins t u idle running w s q S = absurd w
  ended-twins t u idle (done y) w s q S = absurd w
  ended-twins t u ready idle w s q S = absurd w
  ended-twins t u ready ready w s q S = tt
  ended-twins t u ready running w s q S = tt
  ended-twins t u ready (done y) w s q S = tt
  ended-twins t u running idle w s q S = absurd w
  ended-twins t u running ready w s q S = tt
  ended-twins t u running running w s q S = tt
  ended-twins t u running (done y) w s q S = tt
  ended-twins t u (done x) idle w s q S = absurd w
  ended-twins t u (done x) ready w s q S = tt
  ended-twins t u (done x) running w s q S = tt
  ended-twins t u (done x) (done y) w s q S = put (λ j. Twin) t idle idle _ _ s q (ap₂ (place (outputs_of M t)) w S.same-ports) tt S

  every : (l : List (Act Call)) → Each (λ a. Unit {0}) l
  every [] = tt
  every (a ∷ l) = (tt, every l)

  -- Twins, both in time, come to the same mode, time and ports, and release the same tasks.
  pub instant-twins : (k t : ℕ) (readings : List ℕ) (s q : Store) (w z : Place) → Twins s q → instant M k t readings s ≡ well w → instant M k t readings q ≡ well z → Same (λ j. Twin) w z
  instant-twins k t readings s q w z T e f =
      let h = instant-rel M (λ j. Twin) (λ j. tt) (Unit {0}) (λ x y. Unit {0}) (λ o x y. tt) (λ j. Unit {0}) ended-twins k t readings s q (every (closing (mode_at M k).period t (mode_at M k).calls)) T in
      let h1 : InTime (Same (λ j. Twin)) (well w) (instant M k t readings q) = subst (λ (r : Outcome Place). InTime (Same (λ j. Twin)) r (instant M k t readings q)) e h in
      subst (λ (r : Outcome Place). InTime (Same (λ j. Twin)) (well w) r) f h1

-- ---- twins are out alike

twin-out : (a b : Standing) → Twin a b → is_out a ≡ is_out b
twin-out idle idle t = refl
twin-out idle ready t = absurd t
twin-out idle running t = absurd t
twin-out idle (done y) t = absurd t
twin-out ready idle t = absurd t
twin-out ready ready t = refl
twin-out ready running t = absurd t
twin-out ready (done y) t = refl
twin-out running idle t = absurd t
twin-out running ready t = absurd t
twin-out running running t = absurd t
twin-out running (done y) t = refl
twin-out (done x) idle t = absurd t
twin-out (done x) ready t = absurd t
twin-out (done x) running t = absurd t
twin-out (done x) (done y) t = refl

pub twins-out : (l n : List Standing) → length l ≡ length n → ((j : ℕ) → Twin (get_or l j idle) (get_or n j idle)) → which_out l ≡ which_out n
twins-out [] [] e h = refl
twins-out [] (b ∷ n) e h = absurd (omega arith)
twins-out (a ∷ l) [] e h = absurd (omega arith)
twins-out (a ∷ l) (b ∷ n) e h = ap₂ ◌∷◌ (twin-out a b (h zero)) (twins-out l n (omega arith) (λ j. h (suc j)))

-- one task of the left goes on, and is still a twin
pub set-one : (l : List Standing) (t : ℕ) (y : Standing) (f : ℕ → Standing) → Twin y (f t) → ((j : ℕ) → Twin (get_or l j idle) (f j)) → (j : ℕ) → Twin (get_or (set l t y) j idle) (f j)
set-one [] t y f w h j = h j
set-one (a ∷ l) zero y f w h zero = w
set-one (a ∷ l) zero y f w h (suc j) = h (suc j)
set-one (a ∷ l) (suc t) y f w h zero = h zero
set-one (a ∷ l) (suc t) y f w h (suc j) = set-one l t y (λ i. f (suc i)) w (λ i. h (suc i)) j
