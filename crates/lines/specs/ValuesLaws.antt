-- How a list of values goes by the places of its commas.
use Prim.Native.Nat.{ℕ, zero, suc, ◌+◌, ◌-◌, ◌≤◌, ◌<◌, min}
use Rattle.std.specs.Prelude.{◌≡◌, refl, List, [], ◌∷◌, Bool, true, false, Some, None, is_some, unwrap_or, cond, get_or, drop, set, eqb, leb}
use Rattle.std.proofs.Math.Path.{sym}
use Rattle.std.proofs.Common.{◌∙◌, drop_of_length-le, le-leb, eq-eqb, ne_eqb}
use native.Mathlib.Omega.{arith}
use Rattle.std.proofs.Math.Nat.{zero-min}
use Rattle.std.proofs.Math.ListN.{length, length-set}
use Rattle.std.proofs.Math.Seq.{slice, slice_empty}
use Rattle.std.proofs.lemmas.Bool.{lt-leb}
use Rattle.model.specs.Bytes.{bytes, same}
use Rattle.text.specs.Words.{munch_at}
use Rattle.text.proofs.WordsLaws.{slice-step, munch-on, munch-out, munch-end}
use Rattle.text.proofs.TokensLaws.{munch-at-within}
use Rattle.text.proofs.SpacesLaws.{drop-step}
use Rattle.lines.specs.Buffers.{written, written_none, written_on, written-length}
use Rattle.lines.specs.Numbers.{number_of}
use Rattle.lines.specs.Parts.{differs, Found, part-behind}
use Rattle.lines.specs.Values.{beyond, int_value, positive_of, negative_of, int_in, value_in, pieces, list_in, all_values, types_in, words_in, listed_of, Lists}

-- the words between commas from a place on; none behind the end
unfoldable pub pieces_at : List ℕ → ℕ → List (List ℕ)
pieces_at w at = cond (leb at (length w)) (pieces (drop at w)) []

pub pieces_end : (w : List ℕ) (at : ℕ) → length w < at → pieces_at w at ≡ []
unfolding pieces_at
pieces_end w at h = simp (lt-leb _ _ h)

pub pieces-here : (w : List ℕ) (at : ℕ) → at ≤ length w → pieces_at w at ≡ pieces (drop at w)
unfolding pieces_at
pieces-here w at h = simp (le-leb _ _ h)

-- the first of them ends at the next comma
first_piece : (w : List ℕ) (n at : ℕ) → at + n ≡ length w → pieces (drop at w) ≡ slice at (munch_at (differs 44) w at) w ∷ pieces_at w (munch_at (differs 44) w at + 1)
unfolding pieces
first_piece w zero at h =
    let over : length w ≤ at = omega arith in
    rw (munch-end (differs 44) w at over, slice_empty at w, pieces_end w (at + 1) (omega arith), drop_of_length-le w over)
first_piece w (suc n) at h = go (eqb (get_or w at 0) 44) refl (first_piece w n (at + 1) (omega arith))
  where
    go : (t : Bool) → eqb (get_or w at 0) 44 ≡ t → pieces (drop (at + 1) w) ≡ slice (at + 1) (munch_at (differs 44) w (at + 1)) w ∷ pieces_at w (munch_at (differs 44) w (at + 1) + 1) → pieces (drop at w) ≡ slice at (munch_at (differs 44) w at) w ∷ pieces_at w (munch_at (differs 44) w at + 1)
    go true e ih =
        let l : at < length w = omega arith in
        rw (munch-out (differs 44) w at l (simp e), slice_empty at w, pieces-here w (at + 1) (omega arith), drop-step w at l) (simp e)
    go false e ih =
        let l : at < length w = omega arith in
        let k = munch-at-within (differs 44) w (at + 1) (omega arith) in
        let on = munch-on (differs 44) w at l (simp e) in
        rw (on, drop-step w at l, slice-step w at (munch_at (differs 44) w (at + 1)) (omega (arith, k.0)) k.1) (simp (e, ih))

pub pieces_step : (w : List ℕ) (at end : ℕ) → at ≤ length w → Found w at 44 end → pieces_at w at ≡ slice at end w ∷ pieces_at w (end + 1)
pieces_step w at end h f =
    let m : min at (length w) ≡ at = omega arith in
    let e : end ≡ munch_at (differs 44) w at = rw m at f.place in
    rw (pieces-here w at h, e) (first_piece w (length w - at) at (omega arith))

-- ---- a negative int

module _ (n : ℕ) where
  pub negative-none : n ≡ 0 → int_value 0 ≡ negative_of n
  unfolding negative_of
  negative-none e = simp (eq-eqb _ _ e)

  pub negative-fits : 1 ≤ n → n ≤ 2147483648 → int_value (4294967296 - n) ≡ negative_of n
  unfolding negative_of
  negative-fits l h = let e : n ≡ 0 → ⊥ = λ z. omega arith in simp (ne_eqb _ _ e, le-leb _ _ h)

  pub negative-over : 2147483648 < n → beyond ≡ negative_of n
  unfolding negative_of
  negative-over h = let e : n ≡ 0 → ⊥ = λ z. omega arith in simp (ne_eqb _ _ e, lt-leb _ _ h)

module _ (w : List ℕ) where
  module _ (minus : get_or w 1 0 ≡ 45) where
    pub int-minus : (n : ℕ) → Some n ≡ number_of (slice 2 (length w) w) → Some (negative_of n) ≡ int_in w
    unfolding int_in
    int-minus n e = rw (← part-behind 2 w, ← e) (simp (eq-eqb _ _ minus))

    pub int-minus-none : None ≡ number_of (slice 2 (length w) w) → None ≡ int_in w
    unfolding int_in
    int-minus-none e = rw (← part-behind 2 w, ← e) (simp (eq-eqb _ _ minus))

  module _ (plus : get_or w 1 0 ≡ 45 → ⊥) where
    pub int-plus : (n : ℕ) → Some n ≡ number_of (slice 1 (length w) w) → Some (positive_of n) ≡ int_in w
    unfolding int_in
    int-plus n e = rw (← part-behind 1 w, ← e) (simp (ne_eqb _ _ plus))

    pub int-plus-none : None ≡ number_of (slice 1 (length w) w) → None ≡ int_in w
    unfolding int_in
    int-plus-none e = rw (← part-behind 1 w, ← e) (simp (ne_eqb _ _ plus))

-- ---- whether all are values

module _ (v : List ℕ) (ws : List (List ℕ)) where
  pub values-on : is_some (value_in v) ≡ true → all_values (v ∷ ws) ≡ all_values ws
  unfolding all_values
  values-on e = simp e

  pub values-out : is_some (value_in v) ≡ false → all_values (v ∷ ws) ≡ false
  unfolding all_values
  values-out e = simp e

pub values-end : all_values [] ≡ true
unfolding all_values
values-end = refl

-- ---- their types and words

-- all the types and words were put, one behind the other, and counted
pub record Filled (w types words types_then words_then : List ℕ) (count : ℕ) : Type 0 where
  pub types-put : types_then ≡ written types 0 (types_in (pieces w))
  pub words-put : words_then ≡ written words 0 (words_in (pieces w))
  pub counted : count ≡ length (pieces w)

-- those of so many words between commas are left
pub record Filling (w types words : List ℕ) (left : List (List ℕ)) (types_then words_then : List ℕ) (count : ℕ) : Type 0 where
  pub types-left : written types 0 (types_in (pieces w)) ≡ written types_then count (types_in left)
  pub words_left : written words 0 (words_in (pieces w)) ≡ written words_then count (words_in left)
  pub counting : length (pieces w) ≡ count + length left
  pub types_long : length types_then ≡ length types
  pub words_long : length words_then ≡ length words

pub filling-begins : (w types words : List ℕ) → Filling w types words (pieces_at w 0) types words 0
filling-begins w types words =
    rw (pieces-here w 0 (omega arith)) (record { types-left = refl; words_left = refl; counting = omega arith; types_long = refl; words_long = refl })

module _ {w types words types_then words_then : List ℕ} {count : ℕ} where
  pub filling-on : (v : List ℕ) (left : List (List ℕ)) → Filling w types words (v ∷ left) types_then words_then count → Filling w types words left (set types_then count (unwrap_or (value_in v) beyond).typ) (set words_then count (unwrap_or (value_in v) beyond).word) (count + 1)
  unfolding types_in words_in
  filling-on v left f =
      record {
        types-left = f.types-left ∙ written_on types_then count (unwrap_or (value_in v) beyond).typ (types_in left);
        words_left = f.words_left ∙ written_on words_then count (unwrap_or (value_in v) beyond).word (words_in left);
        counting = omega (arith, f.counting);
        types_long = length-set types_then count (unwrap_or (value_in v) beyond).typ ∙ f.types_long;
        words_long = length-set words_then count (unwrap_or (value_in v) beyond).word ∙ f.words_long;
      }

  pub filling-ends : Filling w types words [] types_then words_then count → Filled w types words types_then words_then count
  unfolding types_in words_in
  filling-ends f =
      record {
        types-put = sym (f.types-left ∙ written_none types_then count);
        words-put = sym (f.words_left ∙ written_none words_then count);
        counted = omega (arith, f.counting);
      }

-- ---- the whole list

module _ (w types words : List ℕ) where
  pub lists-none : same w (bytes "-") ≡ true → Lists w types words types words (Some 0)
  unfolding list_in listed_of all_values types_in words_in
  lists-none e =
      record {
        answer = simp e (simp zero-min);
        types-held = simp (e, written_none);
        words-held = simp (e, written_none);
        types-fit = omega arith;
        words-fit = omega arith;
      }

  module _ (some : same w (bytes "-") ≡ false) where
    list-is : list_in w ≡ pieces w
    unfolding list_in
    list-is = simp some

    pub lists-not : all_values (pieces w) ≡ false → Lists w types words types words None
    unfolding listed_of
    lists-not a =
        record { answer = rw list-is (simp a); types-held = refl; words-held = refl; types-fit = omega arith; words-fit = omega arith }

    pub lists-good : {types_then words_then : List ℕ} {count : ℕ} (first kept : ℕ) → all_values (pieces w) ≡ true → Filled w types words types_then words_then count → first ≡ min count (length types_then) → kept ≡ min first (length words_then) → Lists w types words types_then words_then (Some kept)
    unfolding listed_of
    lists-good {types_then} {words_then} {count} first kept a f r k =
        let t : length types_then ≡ length types = rw f.types-put (written-length (types_in (pieces w)) types 0) in
        let u : length words_then ≡ length words = rw f.words-put (written-length (words_in (pieces w)) words 0) in
        let n : kept ≡ min (length (pieces w)) (min (length types) (length words)) = rw (← f.counted, ← t, ← u) (omega arith) in
        record {
          answer = rw (list-is, n) (simp a);
          types-held = rw list-is f.types-put;
          words-held = rw list-is f.words-put;
          types-fit = omega arith;
          words-fit = omega arith;
        }
