-- What holds of each element of a list; lists with one more behind them; tests joined.
use Rattle.std.specs.Prelude.{ℕ, zero, suc, ◌+◌, ◌<◌, ◌≡◌, List, [], ◌∷◌, ◌++◌, map, Bool, true, false, ◌&&◌, length, get_or}
use Rattle.std.proofs.Common.{arith, length-append}
use Rattle.timing.specs.SlotLaws.{Each}

pub each_append : {A : Type 0} (C : A → Type 0) (xs ys : List A) → Each C xs → Each C ys → Each C (xs ++ ys)
each_append C [] ys h k = k
each_append C (x ∷ xs) ys h k = (h.0, each_append C xs ys h.1 k)

pub each_first : {A : Type 0} (C : A → Type 0) (xs ys : List A) → Each C (xs ++ ys) → Each C xs
each_first C [] ys h = tt
each_first C (x ∷ xs) ys h = (h.0, each_first C xs ys h.1)

pub each_map : {A : Type 0} (C D : A → Type 0) → ((a : A) → C a → D a) → (xs : List A) → Each C xs → Each D xs
each_map C D f [] h = tt
each_map C D f (x ∷ xs) h = (f x h.0, each_map C D f xs h.1)

pub each_at : {A : Type 0} (C : A → Type 0) (default : A) (xs : List A) (k : ℕ) → Each C xs → k < length xs → C (get_or xs k default)
each_at C default [] k h l = absurd (omega arith)
each_at C default (x ∷ xs) zero h l = h.0
each_at C default (x ∷ xs) (suc k) h l = each_at C default xs k h.1 (omega arith)

pub each_none : {A : Type 0} (C : A → Type 0) (xs : List A) → xs ≡ [] → Each C xs
each_none C xs e = rw e tt

pub each-mapped : {A B : Type 0} (C : B → Type 0) (f : A → B) (xs : List A) → Each (λ a. C (f a)) xs → Each C (map f xs)
each-mapped C f [] h = tt
each-mapped C f (x ∷ xs) h = (h.0, each-mapped C f xs h.1)

pub one-longer : {A : Type 0} (xs : List A) (x : A) → length (xs ++ (x ∷ [])) ≡ length xs + 1
one-longer xs x = length-append xs (x ∷ [])

pub and-false : (a b : Bool) → a ≡ true → (a && b) ≡ false → b ≡ false
and-false true b e h = h
and-false false b e h = let z : ◌≡◌ {A = ℕ} 0 1 = cc in absurd (omega arith)
