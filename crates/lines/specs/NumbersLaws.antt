-- How numbers and byte strings go by the byte at a place.
use Prim.Native.Nat.{ℕ, ◌+◌, ◌-◌, ◌*◌, ◌/◌, ◌%◌, ◌≤◌, ◌<◌, min}
use Rattle.std.specs.Prelude.{◌≡◌, Bool, Option, Result, Ok, Err, Some, None, cond, not, eqb, ltb, get_or, drop, leb}
use Rattle.std.specs.Result.{OkIff, result_ok}
use Rattle.std.proofs.Math.Path.{refl}
use Rattle.std.proofs.Common.{sym, ◌∙◌, drop_of_length-le}
use mathlib.Core.List.{List, [], ◌∷◌}
use Rattle.std.proofs.Math.Bool.{true, false}
use native.Mathlib.Omega.{arith}
use Rattle.std.proofs.Math.ListN.{length, length-drop}
use borrow.Author.Tests.{eq-eqb, ne_eqb, lt-ltb, le-ltb, le-leb, lt-leb, leb-true, ltb-true, ltb-false}
use lib.Pointwise.{pointwise}
use Rattle.model.specs.Bytes.{bytes, same}
use Rattle.text.specs.Words.{within, value}
use Rattle.text.proofs.WordsLaws.{same→eq}
use Rattle.text.proofs.SpacesLaws.{drop-step}
use Rattle.lines.specs.Numbers.{all, digit_in, digits, number_of, small_of, hex_worth, bytes_of, unspelled_of, Unspells}
use Rattle.lines.specs.Buffers.{written, written_none, written-length}

module _ (p : ℕ → Bool) (xs : List ℕ) (k : ℕ) where
  pub all-on : k < length xs → p (get_or xs k 0) ≡ true → all p (drop k xs) ≡ all p (drop (k + 1) xs)
  unfolding all
  all-on h e = rw (drop-step xs k h) (simp e)

  pub all-out : k < length xs → p (get_or xs k 0) ≡ false → all p (drop k xs) ≡ false
  unfolding all
  all-out h e = rw (drop-step xs k h) (simp e)

  pub all_end : length xs ≤ k → all p (drop k xs) ≡ true
  unfolding all
  all_end h = rw (drop_of_length-le xs h)

module _ (hex : Bool) (w : List ℕ) where
  pub digits-not : all (digit_in hex) w ≡ false → false ≡ digits hex w
  unfolding digits
  digits-not e = go (eqb (length w) 0) refl
    where
      go : (t : Bool) → eqb (length w) 0 ≡ t → false ≡ digits hex w
      go true h = simp h
      go false h = simp (h, e)

  pub digits-all : (none : Bool) → all (digit_in hex) w ≡ true → none ≡ eqb (length w) 0 → not none ≡ digits hex w
  unfolding digits
  digits-all none e h = rw h (go (eqb (length w) 0) refl)
    where
      go : (t : Bool) → eqb (length w) 0 ≡ t → not (eqb (length w) 0) ≡ digits hex w
      go true z = simp z
      go false z = simp (z, e)

module _ (w : List ℕ) (k : ℕ) where
  pub bytes_on : k + 1 < length w → bytes_of (drop k w) ≡ (hex_worth (get_or w k 0) * 16 + hex_worth (get_or w (k + 1) 0)) ∷ bytes_of (drop (k + 1 + 1) w)
  unfolding bytes_of
  bytes_on h = rw (drop-step w k (omega arith), drop-step w (k + 1) h)

  pub bytes-end : length w ≤ k + 1 → bytes_of (drop k w) ≡ []
  unfolding bytes_of
  bytes-end h = short (drop k w) (simp length-drop (omega arith))
    where
      short : (xs : List ℕ) → length xs ≤ 1 → bytes_of xs ≡ []
      short [] l = refl
      short (x ∷ []) l = refl
      short (x ∷ y ∷ xs) l = absurd (omega arith)

-- equality of bytes, as the code tests it
pub same-is : (w v : List ℕ) → pointwise eqb w v ≡ same w v
unfolding same
same-is [] [] = refl
same-is [] (y ∷ ys) = refl
same-is (x ∷ xs) [] = refl
same-is (x ∷ xs) (y ∷ ys) = go (eqb x y) refl (same-is xs ys)
  where
    go : (t : Bool) → eqb x y ≡ t → pointwise eqb xs ys ≡ same xs ys → pointwise eqb (x ∷ xs) (y ∷ ys) ≡ same (x ∷ xs) (y ∷ ys)
    go true e h = simp (e, h)
    go false e h = simp e

pub dash-is : (w : List ℕ) → same w (bytes "-") ≡ true → w ≡ 45 ∷ []
dash-is w e = same→eq w (bytes "-") (rw e tt)

pub dash-bytes : (w : List ℕ) → same w (bytes "-") ≡ true → bytes_of w ≡ []
unfolding bytes_of
dash-bytes w e = rw (dash-is w e)

module _ (low high b : ℕ) where
  within-in : low ≤ b → b ≤ high → within low high b ≡ true
  within-in l h = simp (le-leb _ _ l, le-leb _ _ h)

  within-out : (low ≤ b → high < b) → within low high b ≡ false
  within-out h = go (leb low b) refl
    where
      go : (t : Bool) → leb low b ≡ t → within low high b ≡ false
      go true e = simp (e, lt-leb _ _ (h (leb-true _ _ e)))
      go false e = simp e

module _ (hex : Bool) (b : ℕ) where
  pub digit-plain : 48 ≤ b → b ≤ 57 → true ≡ digit_in hex b
  unfolding digit_in
  digit-plain l h = simp (within-in 48 57 b l h)

  pub digit-letter : 97 ≤ b → b ≤ 102 → hex ≡ digit_in hex b
  unfolding digit_in
  digit-letter l h = go hex
    where
      go : (t : Bool) → t ≡ digit_in t b
      go true = simp (within-out 48 57 b (λ k. omega arith), within-in 97 102 b l h)
      go false = simp (within-out 48 57 b (λ k. omega arith))

  pub digit-other : (48 ≤ b → 57 < b) → (97 ≤ b → 102 < b) → false ≡ digit_in hex b
  unfolding digit_in
  digit-other d l = go hex
    where
      go : (t : Bool) → false ≡ digit_in t b
      go true = simp (within-out 48 57 b d, within-out 97 102 b l)
      go false = simp (within-out 48 57 b d)

module _ (b : ℕ) where
  pub worth-plain : 48 ≤ b → b ≤ 57 → b - 48 ≡ hex_worth b
  unfolding hex_worth
  worth-plain l h = simp (within-in 48 57 b l h)

  pub worth-letter : 97 ≤ b → b ≤ 102 → b - 97 + 10 ≡ hex_worth b
  unfolding hex_worth
  worth-letter l h = let e : b - 97 + 10 ≡ b - 87 = omega arith in e ∙ simp (within-out 48 57 b (λ k. omega arith), within-in 97 102 b l h)

  pub worth-other : (48 ≤ b → 57 < b) → (97 ≤ b → 102 < b) → 0 ≡ hex_worth b
  unfolding hex_worth
  worth-other d l = simp (within-out 48 57 b d, within-out 97 102 b l)

-- ---- numbers

module _ (w : List ℕ) where
  pub number-good : (v : ℕ) → digits false w ≡ true → v ≡ min (value w) 4294967296 → Some v ≡ number_of w
  unfolding number_of
  number-good v d e = rw e (simp d)

  pub number-bad : digits false w ≡ false → None ≡ number_of w
  unfolding number_of
  number-bad d = simp d

  pub small-none : None ≡ number_of w → None ≡ small_of w
  unfolding number_of small_of
  small-none e = go (digits false w) refl
    where
      go : (t : Bool) → digits false w ≡ t → None ≡ small_of w
      go true d = let z : None ≡ Some (min (value w) 4294967296) = e ∙ simp d in cc
      go false d = simp d

  pub small-some : (n : ℕ) → Some n ≡ number_of w → cond (ltb n 4294967296) (Some n) None ≡ small_of w
  unfolding number_of small_of
  small-some n e = go (digits false w) refl (ltb (value w) 4294967296) refl
    where
      go : (t : Bool) → digits false w ≡ t → (u : Bool) → ltb (value w) 4294967296 ≡ u → cond (ltb n 4294967296) (Some n) None ≡ small_of w
      go false d u h = let z : Some n ≡ None = e ∙ simp d in cc
      go true d true h =
          let v : Some n ≡ Some (min (value w) 4294967296) = e ∙ simp d in
          let i : n ≡ min (value w) 4294967296 = cc in
          let l : value w < 4294967296 = ltb-true _ _ h in
          let m : n ≡ value w = omega arith in
          rw m (simp (d, h))
      go true d false h =
          let v : Some n ≡ Some (min (value w) 4294967296) = e ∙ simp d in
          let i : n ≡ min (value w) 4294967296 = cc in
          let l : 4294967296 ≤ value w = ltb-false _ _ h in
          let m : 4294967296 ≤ n = omega arith in
          simp (d, h, le-ltb _ _ m)

-- ---- byte strings

module _ (w room : List ℕ) where
  pub unspells-none : same w (bytes "-") ≡ true → Unspells w room room (Some 0)
  unfolding unspelled_of
  unspells-none e =
      record { answer = simp e; held = rw (dash-bytes w e) (sym (written_none room 0)); fits = omega arith }

  unread : None ≡ unspelled_of w (length room) → Unspells w room room None
  unread e = record { answer = e; held = refl; fits = omega arith }

  module _ (not__none : same w (bytes "-") ≡ false) where
    pub unspells-other : digits true w ≡ false → Unspells w room room None
    unfolding unspelled_of
    unspells-other d = unread (simp (not__none, d))

    module _ (d : digits true w ≡ true) where
      pub unspells-odd : (length w % 2 ≡ 0 → ⊥) → Unspells w room room None
      unfolding unspelled_of
      unspells-odd o = unread (simp (not__none, d, ne_eqb _ _ o))

      pub unspells-long : length w % 2 ≡ 0 → length room < length w / 2 → Unspells w room room None
      unfolding unspelled_of
      unspells-long o l = unread (simp (not__none, d, eq-eqb _ _ o, lt-leb _ _ l))

      pub unspells-good : (then : List ℕ) → length w % 2 ≡ 0 → length w / 2 ≤ length room → then ≡ written room 0 (bytes_of w) → Unspells w room then (Some (length w / 2))
      unfolding unspelled_of
      unspells-good then o l h =
          record { answer = simp (not__none, d, eq-eqb _ _ o, le-leb _ _ l); held = h; fits = rw (h, written-length (bytes_of w) room 0) l }

-- what is left of a number that was to fit 32 bits
pub fits-ok : {E : Type 0} (r : Result ℕ E) (n : ℕ) {kept : Option ℕ} → OkIff r (n < 4294967296) n → kept ≡ result_ok r → kept ≡ cond (ltb n 4294967296) (Some n) None
fits-ok (Ok x) n o e = e ∙ rw (o.1) (simp (lt-ltb _ _ o.0))
fits-ok (Err x) n o e = e ∙ simp (le-ltb _ _ (not-lt n o))
  where
    not-lt : (m : ℕ) → (m < 4294967296 → ⊥) → 4294967296 ≤ m
    not-lt m h = omega arith
