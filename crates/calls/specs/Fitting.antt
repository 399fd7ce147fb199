-- Laws of `fits`, for a loop that goes through types and words side by side.
use Rattle.std.specs.Prelude.{ℕ, zero, suc, ◌+◌, ◌≤◌, ◌<◌, ◌≡◌, Bool, true, false, ◌&&◌, List, [], ◌∷◌, length, get_or, drop, eqb}
use Rattle.std.proofs.Common.{arith, sym, ◌∙◌, ap}
use Rattle.std.proofs.Math.Numerals.{add-one}
use Rattle.std.proofs.Math.Path.{refl}
use Rattle.std.proofs.Math.ListN.{drop_of_length-le}
use Rattle.std.proofs.Math.Seq.{drop-cons}
use Rattle.model.specs.Values.{fits_type}
use Rattle.model.specs.Clock.{fits}
use Rattle.machine.specs.Store.{part}
use Rattle.steps.specs.Parts.{left, left-on, left-none}

abbrev pub fits_one : ℕ → ℕ → ℕ → Bool
fits_one wanted type word = eqb type wanted && fits_type type word

-- where the counts differ, nothing fits
both_false : (b : Bool) → b && false ≡ false
both_false true = refl
both_false false = refl

pub types-count : (wanted types words : List ℕ) → (length types ≡ length wanted → ⊥) → fits wanted types words ≡ false
unfolding fits
types-count [] [] words apart = absurd (apart refl)
types-count [] (type ∷ types) words apart = refl
types-count (one ∷ wanted) [] words apart = refl
types-count (one ∷ wanted) (type ∷ types) [] apart = refl
types-count (one ∷ wanted) (type ∷ types) (word ∷ words) apart =
    rw (types-count wanted types words (λ same. apart (ap suc same))) (both_false (fits_one one type word))

pub words_count : (wanted types words : List ℕ) → (length words ≡ length wanted → ⊥) → fits wanted types words ≡ false
unfolding fits
words_count [] [] [] apart = absurd (apart refl)
words_count [] [] (word ∷ words) apart = refl
words_count [] (type ∷ types) words apart = refl
words_count (one ∷ wanted) [] words apart = refl
words_count (one ∷ wanted) (type ∷ types) [] apart = refl
words_count (one ∷ wanted) (type ∷ types) (word ∷ words) apart =
    rw (words_count wanted types words (λ same. apart (ap suc same))) (both_false (fits_one one type word))

pub length_part : (words : List ℕ) (at n : ℕ) → length (part words at n) ≡ n
length_part words at zero = refl
length_part words at (suc n) = ap suc (length_part words (at + 1) n)

-- ---- the loop: the first i of n fit, and what is left decides
module _ (wanted : List ℕ) (at n : ℕ) (types words : List ℕ) (i : ℕ) where
  abbrev pub rest : Bool
  rest = fits (left wanted at n i) (drop i types) (drop i words)

  rest-on : i < n → length types ≡ n → length words ≡ n
      → rest ≡ fits_one (get_or wanted (at + i) 0) (get_or types i 0) (get_or words i 0) && fits (left wanted at n (i + 1)) (drop (i + 1) types) (drop (i + 1) words)
  unfolding fits
  rest-on within types-n words-n =
      rw (left-on wanted at n i within, drop-cons types i 0 (omega arith), drop-cons words i 0 (omega arith), add-one i) refl

  pub rest_goes : i < n → length types ≡ n → length words ≡ n → fits_one (get_or wanted (at + i) 0) (get_or types i 0) (get_or words i 0) ≡ true
      → fits (left wanted at n (i + 1)) (drop (i + 1) types) (drop (i + 1) words) ≡ rest
  rest_goes within types-n words-n one = sym (rest-on within types-n words-n ∙ rw one refl)

  pub rest-fails : i < n → length types ≡ n → length words ≡ n → fits_one (get_or wanted (at + i) 0) (get_or types i 0) (get_or words i 0) ≡ false → false ≡ rest
  rest-fails within types-n words-n one = sym (rest-on within types-n words-n ∙ rw one refl)

  pub rest-none : n ≤ i → length types ≡ n → length words ≡ n → true ≡ rest
  unfolding fits
  rest-none past types-n words-n =
      rw (left-none wanted at n i past, drop_of_length-le types {i = i} (omega arith), drop_of_length-le words {i = i} (omega arith)) refl
