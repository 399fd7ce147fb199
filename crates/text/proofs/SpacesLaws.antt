-- How white space and comments go by the byte at a place: 47 is `/`, 42 is `*`, 10 is LF.
use Rattle.std.specs.Prelude.{ℕ, ◌+◌, ◌≤◌, ◌<◌, ◌≡◌, refl, List, ◌∷◌, true, false, length, get_or, drop}
use Rattle.std.proofs.Common.{sym, ◌∙◌, add-one, drop_of_length-le, drop-cons}
use borrow.Author.Tests.{eq-eqb, ne_eqb}
use Rattle.text.specs.declared.Skipped.TheVariants.{Stop, Open}
use Rattle.text.specs.Spaces.{white, spaces, slash, star, spaces_at, line_at, block_at}

pub drop-step : (s : List ℕ) (i : ℕ) → i < length s → drop i s ≡ get_or s i 0 ∷ drop (i + 1) s
drop-step s i h = rw (add-one, drop-cons s i 0)

-- ---- at the end of the text
module _ (s : List ℕ) (i : ℕ) (h : length s ≤ i) where
  pub spaces-end : spaces_at s i ≡ Stop i
  unfolding spaces
  spaces-end = rw (drop_of_length-le s h)

  pub line-end : line_at s i ≡ Stop i
  unfolding spaces
  line-end = rw (drop_of_length-le s h)

  pub block-end : (from : ℕ) → block_at s i from ≡ Open from
  unfolding spaces
  block-end from = rw (drop_of_length-le s h)

  star-end : (from : ℕ) → star (drop i s) i from ≡ Open from
  unfolding spaces
  star-end from = rw (drop_of_length-le s h)

  slash-end : (from : ℕ) → slash (drop i s) from ≡ Stop from
  unfolding spaces
  slash-end from = rw (drop_of_length-le s h)

-- ---- by one byte

module _ (s : List ℕ) (i : ℕ) (h : i < length s) where
  pub spaces-white : white (get_or s i 0) ≡ true → spaces_at s i ≡ spaces_at s (i + 1)
  unfolding spaces
  spaces-white w = rw (drop-step s i h) (simp w)

  pub spaces-other : white (get_or s i 0) ≡ false → (get_or s i 0 ≡ 47 → ⊥) → spaces_at s i ≡ Stop i
  unfolding spaces
  spaces-other w n = rw (drop-step s i h) (simp (w, ne_eqb _ _ n))

  spaces-slash : get_or s i 0 ≡ 47 → spaces_at s i ≡ slash (drop (i + 1) s) i
  unfolding spaces
  spaces-slash e = rw (drop-step s i h) (simp e)

  slash-line : get_or s i 0 ≡ 47 → (from : ℕ) → from + 1 ≡ i → slash (drop i s) from ≡ line_at s (i + 1)
  unfolding spaces
  slash-line e from p = rw (drop-step s i h) (simp (eq-eqb _ _ e, p))

  slash-block : get_or s i 0 ≡ 42 → (from : ℕ) → from + 1 ≡ i → slash (drop i s) from ≡ block_at s (i + 1) from
  unfolding spaces
  slash-block e from p = rw (drop-step s i h) (simp (e, p))

  slash-no : (get_or s i 0 ≡ 47 → ⊥) → (get_or s i 0 ≡ 42 → ⊥) → (from : ℕ) → slash (drop i s) from ≡ Stop from
  unfolding spaces
  slash-no n m from = rw (drop-step s i h) (simp (ne_eqb _ _ n, ne_eqb _ _ m))

  pub line-out : get_or s i 0 ≡ 10 → line_at s i ≡ spaces_at s (i + 1)
  unfolding spaces
  line-out e = rw (drop-step s i h) (simp (eq-eqb _ _ e))

  pub line_on : (get_or s i 0 ≡ 10 → ⊥) → line_at s i ≡ line_at s (i + 1)
  unfolding spaces
  line_on n = rw (drop-step s i h) (simp (ne_eqb _ _ n))

  pub block_on : (get_or s i 0 ≡ 42 → ⊥) → (from : ℕ) → block_at s i from ≡ block_at s (i + 1) from
  unfolding spaces
  block_on n from = rw (drop-step s i h) (simp (ne_eqb _ _ n))

  block-star : get_or s i 0 ≡ 42 → (from : ℕ) → block_at s i from ≡ star (drop (i + 1) s) (i + 1) from
  unfolding spaces
  block-star e from = rw (drop-step s i h) (simp (eq-eqb _ _ e))

  -- a `*` that no `/` follows ends nothing
  star-no : (get_or s i 0 ≡ 47 → ⊥) → (from : ℕ) → star (drop i s) i from ≡ block_at s i from
  unfolding spaces
  star-no n from = rw (drop-step s i h) (simp (ne_eqb _ _ n))

  star-out : get_or s i 0 ≡ 47 → (from : ℕ) → star (drop i s) i from ≡ spaces_at s (i + 1)
  unfolding spaces
  star-out e from = rw (drop-step s i h) (simp (eq-eqb _ _ e))

-- ---- by two bytes

module _ (s : List ℕ) (i : ℕ) (h : i < length s) where
  pub block_out : get_or s i 0 ≡ 42 → i + 1 < length s → get_or s (i + 1) 0 ≡ 47 → (from : ℕ) → block_at s i from ≡ spaces_at s (i + 1 + 1)
  block_out e g f from = block-star s i h e from ∙ star-out s (i + 1) g f from

  pub block-lone : get_or s i 0 ≡ 42 → i + 1 < length s → (get_or s (i + 1) 0 ≡ 47 → ⊥) → (from : ℕ) → block_at s i from ≡ block_at s (i + 1) from
  block-lone e g n from = block-star s i h e from ∙ star-no s (i + 1) g n from

  pub block_last : get_or s i 0 ≡ 42 → length s ≤ i + 1 → (from : ℕ) → block_at s i from ≡ block_at s (i + 1) from
  block_last e g from = block-star s i h e from ∙ star-end s (i + 1) g from ∙ sym (block-end s (i + 1) g from)

  pub spaces-last : get_or s i 0 ≡ 47 → length s ≤ i + 1 → spaces_at s i ≡ Stop i
  spaces-last e g = spaces-slash s i h e ∙ slash-end s (i + 1) g i

  pub spaces-line : get_or s i 0 ≡ 47 → i + 1 < length s → get_or s (i + 1) 0 ≡ 47 → spaces_at s i ≡ line_at s (i + 1 + 1)
  spaces-line e g f = spaces-slash s i h e ∙ slash-line s (i + 1) g f i refl

  pub spaces-block : get_or s i 0 ≡ 47 → i + 1 < length s → get_or s (i + 1) 0 ≡ 42 → spaces_at s i ≡ block_at s (i + 1 + 1) i
  spaces-block e g f = spaces-slash s i h e ∙ slash-block s (i + 1) g f i refl

  pub spaces-lone : get_or s i 0 ≡ 47 → i + 1 < length s → (get_or s (i + 1) 0 ≡ 47 → ⊥) → (get_or s (i + 1) 0 ≡ 42 → ⊥) → spaces_at s i ≡ Stop i
  spaces-lone e g n m = spaces-slash s i h e ∙ slash-no s (i + 1) g n m i
