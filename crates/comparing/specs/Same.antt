-- Laws of `same`.
use Rattle.std.specs.Prelude.{ℕ, ◌≡◌, refl, Bool, true, false, cond, ◌&&◌, List, [], ◌∷◌, eqb}
use Rattle.std.specs.Cmp.Lexicographic.{pointwise}
use borrow.Author.Tests.{eq-eqb}
use Rattle.model.specs.Bytes.{same}
use Rattle.text.proofs.WordsLaws.{same→eq}

and-cond : (a b : Bool) → (a && b) ≡ cond a b false
and-cond true b = refl
and-cond false b = refl

-- it is what `==` answers of two slices of numbers
pub pointwise-same : (one other : List ℕ) → pointwise eqb one other ≡ same one other
unfolding same
pointwise-same [] [] = refl
pointwise-same [] (y ∷ ys) = refl
pointwise-same (x ∷ xs) [] = refl
pointwise-same (x ∷ xs) (y ∷ ys) = rw (pointwise-same xs ys) (and-cond (eqb x y) (same xs ys))

pub same_true : (one other : List ℕ) → same one other ≡ true → one ≡ other
same_true one other e = same→eq one other (rw e tt)

pub same_refl : (list : List ℕ) → same list list ≡ true
unfolding same
same_refl [] = refl
same_refl (x ∷ xs) = rw (eq-eqb x x refl) (same_refl xs)
