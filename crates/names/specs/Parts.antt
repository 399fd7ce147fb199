-- A name is the same as itself, letter by letter.
use Rattle.std.specs.Prelude.{◌≡◌, ℕ, true, List, [], ◌∷◌, refl}
use Rattle.std.proofs.Common.{eq-eqb}
use Rattle.model.specs.Bytes.{same}

pub same-own : (a : List ℕ) → same a a ≡ true
unfolding same
same-own [] = refl
same-own (x ∷ xs) = simp (eq-eqb x x refl) (same-own xs)
