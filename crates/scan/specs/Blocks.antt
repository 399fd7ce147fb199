-- What the search for the end of a block comment says.
use Rattle.std.specs.Prelude.{ℕ, ◌+◌, ◌≤◌, ◌<◌, ◌≡◌, refl, List, Bool, true, false, Option, Some, None, length, get_or, eqb, ltb}
use Rattle.std.proofs.Common.{◌∙◌, arith, eqb-true, ltb-true, ltb-false}
use Rattle.std.proofs.lemmas.Bool.{eqb-false}
use Rattle.text.specs.declared.Skipped.TheVariants.{Open}
use Rattle.text.specs.Spaces.{spaces_at, block_at}
use Rattle.text.proofs.SpacesLaws as law

-- behind the comment white space goes on; or it is not closed, wherever it started
abbrev pub BlockEnds : List ℕ → ℕ → Option ℕ → Type 0
BlockEnds s at (Some end) = (at ≤ end) × ((start : ℕ) → block_at s at start ≡ spaces_at s end)
BlockEnds s at None = (start : ℕ) → block_at s at start ≡ Open start

module _ (s : List ℕ) (i : ℕ) where
  -- a byte that closes no comment with the one behind it
  pub block-pass : i + 1 < length s → (get_or s i 0 ≡ 42 → get_or s (i + 1) 0 ≡ 47 → ⊥) → (from : ℕ) → block_at s i from ≡ block_at s (i + 1) from
  block-pass h n from = by (eqb (get_or s i 0) 42) refl
    where
      by : (star : Bool) → eqb (get_or s i 0) 42 ≡ star → block_at s i from ≡ block_at s (i + 1) from
      by true e = let star = eqb-true _ _ e in law.block-lone s i (omega arith) star h (n star) from
      by false e = law.block_on s i (omega arith) (eqb-false _ _ e) from

  -- the last byte closes none, whatever it is
  pub block-over : length s ≤ i + 1 → (from : ℕ) → block_at s i from ≡ Open from
  block-over h from = by (ltb i (length s)) refl (eqb (get_or s i 0) 42) refl
    where
      by : (more : Bool) → ltb i (length s) ≡ more → (star : Bool) → eqb (get_or s i 0) 42 ≡ star → block_at s i from ≡ Open from
      by true g true e = law.block_last s i (ltb-true _ _ g) (eqb-true _ _ e) h from ∙ law.block-end s (i + 1) h from
      by true g false e = law.block_on s i (ltb-true _ _ g) (eqb-false _ _ e) from ∙ law.block-end s (i + 1) h from
      by false g star e = law.block-end s i (ltb-false _ _ g) from
