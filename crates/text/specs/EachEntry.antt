-- A test that holds at every entry of a list of numbers holds at each.
use Rattle.std.specs.Prelude.{ℕ, zero, suc, ◌+◌, ◌<◌, Bool, true, false, cond, List, [], ◌∷◌, T, length, get_or}
use Rattle.std.proofs.Common.{◌∙◌, subst, sym, add-zero, zero-add, add-suc, suc-add, le_of_suc-le-suc, not-suc-le-zero}

abbrev pub both : Bool → Bool → Bool
both a b = cond a b false

pub both_left : (a b : Bool) → T (both a b) → T a
both_left true b t = tt
both_left false b t = t

pub both_right : (a b : Bool) → T (both a b) → T b
both_right true b t = t
both_right false b t = absurd t

-- the test at each entry and its place, counted from i
abbrev pub every : (ℕ → ℕ → Bool) → ℕ → List ℕ → Bool
every test i [] = true
every test i (x ∷ xs) = both (test i x) (every test (suc i) xs)

later : (test : ℕ → ℕ → Bool) (xs : List ℕ) (i : ℕ) → T (every test i xs) → (k : ℕ) → k < length xs → T (test (i + k) (get_or xs k 0))
later test [] i t k h = absurd (not-suc-le-zero h)
later test (x ∷ xs) i t zero h = subst (λ (m : ℕ). T (test m x)) (sym (add-zero i)) (both_left (test i x) (every test (suc i) xs) t)
later test (x ∷ xs) i t (suc k) h =
    subst (λ (m : ℕ). T (test m (get_or xs k 0))) (suc-add i k ∙ sym (add-suc i k))
    (later test xs (suc i) (both_right (test i x) (every test (suc i) xs) t) k (le_of_suc-le-suc h))

pub each-entry : (test : ℕ → ℕ → Bool) (xs : List ℕ) → T (every test 0 xs) → (k : ℕ) → k < length xs → T (test k (get_or xs k 0))
each-entry test xs t k h = subst (λ (m : ℕ). T (test m (get_or xs k 0))) (zero-add k) (later test xs 0 t k h)
