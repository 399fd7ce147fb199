-- Parts of a text whose end may lie behind the text's, or before their start.
use Rattle.std.specs.Prelude.{ℕ, zero, suc, ◌+◌, ◌-◌, ◌*◌, ◌≤◌, ◌<◌, min, ◌≡◌, refl, List, [], ◌∷◌, Bool, true, false, cond, ◌&&◌, length, get_or, take, drop, eqb, ltb}
use Rattle.std.proofs.Common.{sym, ap, ◌∙◌, arith, ltb-true, ltb-false, length-take, length-drop, eq-eqb, ne_eqb}
use Rattle.std.proofs.lemmas.List.{drop-take}
use Rattle.std.specs.Cmp.Lexicographic.{pointwise}
use Rattle.std.proofs.Math.Nat.{zero-min, min-zero, suc-min-suc}
use Rattle.std.proofs.Math.ListN.{drop_of_length-le}
use Rattle.std.proofs.Math.Seq.{slice}
use Rattle.model.specs.Bytes.{same}
use Rattle.text.specs.Words.{value_from}
use Rattle.text.proofs.SpacesLaws.{drop-step}

take_min : (n : ℕ) (s : List ℕ) → take n s ≡ take (min n (length s)) s
take_min zero s = rw (zero-min (length s))
take_min (suc n) [] = rw (min-zero (suc n))
take_min (suc n) (x ∷ xs) = rw (suc-min-suc n (length xs)) (ap (λ (l : List ℕ). x ∷ l) (take_min n xs))

module _ (i e : ℕ) (s : List ℕ) where
  pub slice-clamp : slice i e s ≡ slice i (min e (length s)) s
  slice-clamp = ap (λ (l : List ℕ). drop i l) (take_min e s)

  pub slice-length : length (slice i e s) ≡ min e (length s) - i
  slice-length = simp (length-drop, length-take)

  -- `&s[i..e]`
  pub slice-range : i ≤ e → take (e - i) (drop i s) ≡ slice i e s
  slice-range h = let z : i + (e - i) ≡ e = omega arith in sym (drop-take i (e - i) s) ∙ rw z

  pub slice-none : e ≤ i → slice i e s ≡ []
  slice-none h = drop_of_length-le (take e s) {i = i} (omega (arith, length-take e s))

-- `==` on slices
pub same-pointwise : (a b : List ℕ) → pointwise eqb a b ≡ same a b
unfolding same
same-pointwise [] [] = refl
same-pointwise [] (y ∷ ys) = refl
same-pointwise (x ∷ xs) [] = refl
same-pointwise (x ∷ xs) (y ∷ ys) = by (eqb x y) (same-pointwise xs ys)
  where
    by : (t : Bool) → pointwise eqb xs ys ≡ same xs ys → (t && pointwise eqb xs ys) ≡ cond t (same xs ys) false
    by true e = e
    by false e = refl

-- words whose first j bytes are the same
module _ (a b : List ℕ) (j : ℕ) where
  pub same-next : j < length a → j < length b → get_or a j 0 ≡ get_or b j 0 → same (drop j a) (drop j b) ≡ same (drop (j + 1) a) (drop (j + 1) b)
  unfolding same
  same-next h k q = rw (drop-step a j h, drop-step b j k) (simp (eq-eqb _ _ q))

  pub same-stops : j < length a → j < length b → (get_or a j 0 ≡ get_or b j 0 → ⊥) → same (drop j a) (drop j b) ≡ false
  unfolding same
  same-stops h k q = rw (drop-step a j h, drop-step b j k) (simp (ne_eqb _ _ q))

  pub same-over : length a ≤ j → length b ≤ j → same (drop j a) (drop j b) ≡ true
  unfolding same
  same-over h k = rw (drop_of_length-le a h, drop_of_length-le b k)

-- a start behind the end as the end
pub slice-least : (i e : ℕ) (s : List ℕ) (from : ℕ) → from ≡ min i e → slice from e s ≡ slice i e s
slice-least i e s from p = by (ltb e i) refl
  where
    by : (past : Bool) → ltb e i ≡ past → slice from e s ≡ slice i e s
    by true h =
        let after : e < i = ltb-true _ _ h in
        slice-none from e s (omega arith) ∙ sym (slice-none i e s (omega arith))
    by false h =
        let before : i ≤ e = ltb-false _ _ h in
        let same-start : from ≡ i = omega arith in
        rw same-start

-- ---- the value of digits, one by one

module _ (s : List ℕ) (i n : ℕ) where
  pub value-next : i < length s → value_from n (drop i s) ≡ value_from (n * 10 + (get_or s i 0 - 48)) (drop (i + 1) s)
  unfolding value_from
  value-next h = rw (drop-step s i h)

  pub value-over : length s ≤ i → value_from n (drop i s) ≡ n
  unfolding value_from
  value-over h = rw (drop_of_length-le s h)
