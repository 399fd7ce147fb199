-- Activities with the same frequencies and guards that do alike: they have the same instants and the same code.
use Rattle.std.specs.Prelude.{ℕ, ◌+◌, ◌≡◌, Bool, true, false, cond, List, [], ◌∷◌, ◌++◌, map, length}
use Rattle.std.proofs.Math.Path.{refl, fun_ext}
use Rattle.std.proofs.Common.{◌∙◌, ap}
use Rattle.std.proofs.Math.Option.{none}
use Rattle.model.specs.Modules.{Act, Call}
use Rattle.model.specs.Instructions.{Instr, call}
use Rattle.timing.specs.Slots.{Span, spans, any_of, keep, next_on, soonest}
use Rattle.timing.specs.Code.{driven_from, guarded, pieces, terminating}
use Rattle.emit.specs.Rows.{map_act}

pub data Alike {A B : Type 0} (R : A → B → Type 0) : List (Act A) → List (Act B) → Type 0 where
  alike-none : Alike R [] []
  alike-more : {a : Act A} {b : Act B} {these : List (Act A)} {those : List (Act B)} → a.frequency ≡ b.frequency → a.guard ≡ b.guard → R a.what b.what → Alike R these those → Alike R (a ∷ these) (b ∷ those)

-- ---- lists that are alike

pub alike-maps : {A B C : Type 0} {R : B → C → Type 0} (p : Act A → Act B) (q : Act A → Act C)
    → ((a : Act A) → ((p a).frequency ≡ (q a).frequency) × ((p a).guard ≡ (q a).guard) × R (p a).what (q a).what) → (acts : List (Act A)) → Alike R (map p acts) (map q acts)
alike-maps p q same [] = alike-none
alike-maps p q same (a ∷ acts) = alike-more (same a).0 (same a).1 (same a).2 (alike-maps p q same acts)

pub alike_from : {A B : Type 0} {R : B → A → Type 0} (f : A → B) → ((a : A) → R (f a) a) → (acts : List (Act A)) → Alike R (map (map_act f) acts) acts
alike_from f same [] = alike-none
alike_from f same (a ∷ acts) = alike-more refl refl (same a.what) (alike_from f same acts)

pub alike-driven : {A B : Type 0} {R : A → B → Type 0} {these : List (Act A)} {those : List (Act B)} (n : ℕ) → Alike R these those
    → Alike (λ x y. (x.driver ≡ y.driver) × R x.does y.does) (driven_from n these) (driven_from n those)
alike-driven n alike-none = alike-none
alike-driven n (alike-more f g r rest) = alike-more f g (refl, r) (alike-driven (n + 1) rest)

-- the numbers of drivers that are not called
pub alike-numbered : {A B : Type 0} {R : A → B → Type 0} {these : List (Act A)} {those : List (Act B)} (n : ℕ) → Alike R these those → Alike (λ x y. R x.does y) (driven_from n these) those
alike-numbered n alike-none = alike-none
alike-numbered n (alike-more f g r rest) = alike-more f g r (alike-numbered (n + 1) rest)

-- ---- what they share

module _ {A B : Type 0} (period : ℕ) where
  -- a slot of one begins or ends where one of the other does
  same-slots : (test : Span → Bool) (a : Act A) (b : Act B) → a.frequency ≡ b.frequency → any_of test (spans period a) ≡ any_of test (spans period b)
  unfolding spans
  same-slots test a b e = rw e refl

  same_next : (t n : ℕ) (a : Act A) (b : Act B) → a.frequency ≡ b.frequency → next_on t (spans period a) n ≡ next_on t (spans period b) n
  unfolding spans
  same_next t n a b e = rw e refl

module _ {A B : Type 0} {R : A → B → Type 0} (period : ℕ) where
  pub alike-soonest : (t : ℕ) {these : List (Act A)} {those : List (Act B)} → Alike R these those → (n : ℕ) → soonest period t these n ≡ soonest period t those n
  alike-soonest t alike-none n = refl
  alike-soonest t (alike-more {a = a} {b = b} {those = those} e g r rest) n = alike-soonest t rest (next_on t (spans period a) n) ∙ ap (soonest period t those) (same_next period t n a b e)

  module _ (f : A → List Instr) (g : B → List Instr) (same : (x : A) (y : B) → R x y → f x ≡ g y) (test : Span → Bool) where
    at_places : {these : List (Act A)} {those : List (Act B)} → Alike R these those → (pc : ℕ)
        → pieces f (keep (λ a. any_of test (spans period a)) these) pc ≡ pieces g (keep (λ b. any_of test (spans period b)) those) pc
    at_places alike-none pc = refl
    at_places (alike-more {a = a} {b = b} {these = these} {those = those} e h r rest) pc = rw (same-slots period test a b e) (go (any_of test (spans period b)) (at_places rest))
      where
        here : List (Act A)
        here = keep (λ a. any_of test (spans period a)) these

        there : List (Act B)
        there = keep (λ b. any_of test (spans period b)) those

        go : (y : Bool) → ((pc : ℕ) → pieces f here pc ≡ pieces g there pc) → pieces f (cond y (a ∷ here) here) pc ≡ pieces g (cond y (b ∷ there) there) pc
        go true on = rw (h, same a.what b.what r) (ap (λ (l : List Instr). guarded b.guard (g b.what) pc ++ l) (on (pc + length (guarded b.guard (g b.what) pc))))
        go false on = on pc

    pub alike-pieces : {these : List (Act A)} {those : List (Act B)} → Alike R these those
        → pieces f (keep (λ a. any_of test (spans period a)) these) ≡ pieces g (keep (λ b. any_of test (spans period b)) those)
    alike-pieces alike = fun_ext (at_places alike)

-- ---- terminations, these activities with no guard

abbrev pub unguarded : {A : Type 0} → Act A → Act A
unguarded act = record { frequency = act.frequency; guard = none; what = act.what }

abbrev pub ending : Call → List Instr
ending c = call c.task ∷ []

pub alike-unguarded : {A B : Type 0} {R : A → B → Type 0} {these : List (Act A)} {those : List (Act B)} → Alike R these those → Alike R (map unguarded these) (map unguarded those)
alike-unguarded alike-none = alike-none
alike-unguarded (alike-more f g r rest) = alike-more f refl r (alike-unguarded rest)

module _ (period : ℕ) (test : Span → Bool) where
  pub terminations : (calls : List (Act Call)) (pc : ℕ)
      → pieces ending (keep (λ a. any_of test (spans period a)) (map unguarded calls)) pc ≡ terminating (keep (λ a. any_of test (spans period a)) calls)
  terminations [] pc = refl
  terminations (a ∷ calls) pc = rw (same-slots period test (unguarded a) a refl) (go (any_of test (spans period a)) (terminations calls))
    where
      late : List (Act Call)
      late = keep (λ a. any_of test (spans period a)) (map unguarded calls)

      plain : List (Act Call)
      plain = keep (λ a. any_of test (spans period a)) calls

      go : (y : Bool) → ((pc : ℕ) → pieces ending late pc ≡ terminating plain) → pieces ending (cond y (unguarded a ∷ late) late) pc ≡ terminating (cond y (a ∷ plain) plain)
      go true on = ap (λ (l : List Instr). call a.what.task ∷ l) (on (pc + 1))
      go false on = on pc
