-- How what is said goes on, by digits, bytes and values.
use Prim.Native.Nat.{ℕ, zero, suc, ◌+◌, ◌-◌, ◌*◌, ◌/◌, ◌%◌, ◌^◌, ◌≤◌, ◌<◌}
use Rattle.std.specs.Prelude.{◌≡◌, refl, List, [], ◌∷◌, ◌++◌, length, get_or, take, drop, set, replicate}
use Rattle.std.proofs.Common.{sym, ap, ◌∙◌, length-set, length-drop, take_all, drop-cons, drop-set-lt, get_or-set_same, lt-ltb, le-ltb, eq-eqb, ne_eqb}
use native.Mathlib.Omega.{arith}
use Rattle.std.proofs.Math.Nat.{pow-succ'}
use Rattle.text.proofs.SpacesLaws.{drop-step}
use Rattle.lines.specs.Sayings.{digits_before, decimal_of, glyph_of, pairs_of, hex_of, int_of, value_of, values_behind, values_of}

-- ---- digits, the last first

-- the digits stand in twenty bytes from a place to the end
pub record DigitsOf (n : ℕ) (all : List ℕ) (from : ℕ) : Type 0 where
  pub short : from ≤ 20
  pub long : length all ≡ 20
  pub stand : drop from all ≡ decimal_of n

-- those behind a place stand there, and the others are the digits of what is left
pub record DigitsLeft (n : ℕ) (all : List ℕ) (left k : ℕ) : Type 0 where
  pub some : 0 < k
  pub short : k ≤ 20
  pub long : length all ≡ 20
  pub small : left < 10 ^ k
  pub same : decimal_of n ≡ digits_before k left (drop k all)

put_front : (all : List ℕ) (k x : ℕ) → 0 < k → k ≤ length all → drop (k - 1) (set all (k - 1) x) ≡ x ∷ drop k all
put_front all k x h g =
    let e : suc (k - 1) ≡ k = omega arith in
    let l : k - 1 < length (set all (k - 1) x) = rw (length-set all (k - 1) x) (omega arith) in
    drop-cons (set all (k - 1) x) (k - 1) 0 l ∙ rw (get_or-set_same all (k - 1) x 0 (omega arith), drop-set-lt (suc (k - 1)) all (k - 1) x (omega arith), e)

one_more : (k n : ℕ) (after : List ℕ) → 0 < k → 9 < n → digits_before k n after ≡ digits_before (k - 1) (n / 10) ((48 + n % 10) ∷ after)
unfolding digits_before
one_more zero n after h g = absurd (omega arith)
one_more (suc k) n after h g = let e : suc k - 1 ≡ k = omega arith in simp (lt-ltb 9 n g, e)

the_last : (k n : ℕ) (after : List ℕ) → 0 < k → n ≤ 9 → digits_before k n after ≡ (48 + n) ∷ after
unfolding digits_before
the_last zero n after h g = absurd (omega arith)
the_last (suc k) n after h g = simp (le-ltb 9 n g)

pub digits-begin : (n : ℕ) → n < 2 ^ 64 → DigitsLeft n (replicate 20 48) n 20
digits-begin n h = record { some = omega arith; short = omega arith; long = refl; small = omega arith; same = refl }

module _ {n left k : ℕ} {all : List ℕ} (d : DigitsLeft n all left k) where
  pub digits_more : 9 < left → 1 < k
  digits_more h = go k d.some d.small
    where
      go : (j : ℕ) → 0 < j → left < 10 ^ j → 1 < j
      go zero s l = omega arith
      go (suc zero) s l = omega arith
      go (suc (suc j)) s l = omega arith

  fewer : left / 10 < 10 ^ (k - 1)
  fewer = go k d.some d.small
    where
      go : (j : ℕ) → 0 < j → left < 10 ^ j → left / 10 < 10 ^ (j - 1)
      go zero s l = absurd (omega arith)
      go (suc j) s l = let e : suc j - 1 ≡ j = omega arith in let p : 10 ^ suc j ≡ 10 * 10 ^ j = pow-succ' 10 j in rw e (omega arith)

  pub digits-on : 9 < left → DigitsLeft n (set all (k - 1) (48 + left % 10)) (left / 10) (k - 1)
  digits-on h =
      record {
        some = omega (arith, digits_more h);
        short = omega (arith, d.short);
        long = length-set all (k - 1) _ ∙ d.long;
        small = fewer;
        same = d.same ∙ one_more k left _ d.some h ∙ ap (λ (l : List ℕ). digits_before (k - 1) (left / 10) l) (sym (put_front all k _ d.some (omega (arith, d.short, d.long))));
      }

  pub digits-end : left ≤ 9 → DigitsOf n (set all (k - 1) (48 + left)) (k - 1)
  digits-end h =
      record {
        short = omega (arith, d.short);
        long = length-set all (k - 1) _ ∙ d.long;
        stand = put_front all k _ d.some (omega (arith, d.short, d.long)) ∙ sym (d.same ∙ the_last k left _ d.some h);
      }

pub digits-part : {n from : ℕ} {all : List ℕ} → DigitsOf n all from → take (20 - from) (drop from all) ≡ decimal_of n
digits-part {n} {from} {all} d = take_all (20 - from) (drop from all) (simp length-drop (omega (arith, d.long))) ∙ d.stand

-- ---- bytes

module _ (n : ℕ) where
  pub glyph-digit : n % 16 ≤ 9 → 48 + n % 16 ≡ glyph_of n
  unfolding glyph_of
  glyph-digit h = let l : n % 16 < 10 = omega arith in simp (lt-ltb _ _ l)

  pub glyph-letter : 10 ≤ n % 16 → 97 + (n % 16 - 10) ≡ glyph_of n
  unfolding glyph_of
  glyph-letter h = let e : 97 + (n % 16 - 10) ≡ 87 + n % 16 = omega arith in e ∙ simp (le-ltb _ _ h)

pub pair_is : (x : ℕ) → pairs_of (x ∷ []) ≡ glyph_of (x / 16) ∷ glyph_of x ∷ []
unfolding pairs_of
pair_is x = refl

pub pairs-on : (xs : List ℕ) (k : ℕ) → k < length xs → pairs_of (drop k xs) ≡ pairs_of (get_or xs k 0 ∷ []) ++ pairs_of (drop (k + 1) xs)
unfolding pairs_of
pairs-on xs k h = rw (drop-step xs k h)

pub pairs-none : pairs_of [] ≡ []
unfolding pairs_of
pairs-none = refl

pub hex-none : (xs : List ℕ) → length xs ≡ 0 → hex_of xs ≡ 45 ∷ []
unfolding hex_of
hex-none [] h = refl
hex-none (x ∷ xs) h = absurd (omega arith)

pub hex-some : (xs : List ℕ) → (length xs ≡ 0 → ⊥) → hex_of xs ≡ pairs_of xs
unfolding hex_of
hex-some [] h = absurd (h refl)
hex-some (x ∷ xs) h = refl

-- ---- values

pub int-plain : (word : ℕ) → word < 2147483648 → int_of word ≡ decimal_of word
unfolding int_of
int-plain word h = simp (lt-ltb word 2147483648 h)

pub int-minus : (word : ℕ) → 2147483648 ≤ word → int_of word ≡ 45 ∷ decimal_of (4294967296 - word)
unfolding int_of
int-minus word h = simp (le-ltb word 2147483648 h)

pub value-boolean : (typ word : ℕ) → typ ≡ 1 → value_of typ word ≡ 98 ∷ decimal_of word
unfolding value_of
value-boolean typ word h = simp (eq-eqb typ 1 h)

pub value-int : (typ word : ℕ) → (typ ≡ 1 → ⊥) → value_of typ word ≡ 105 ∷ int_of word
unfolding value_of
value-int typ word h = simp (ne_eqb typ 1 h)

module _ (types words : List ℕ) where
  pub values-on : (k many : ℕ) → k < many → values_behind types words k (many - k) ≡ 44 ∷ (value_of (get_or types k 0) (get_or words k 0) ++ values_behind types words (k + 1) (many - (k + 1)))
  unfolding values_behind
  values-on k many h = let e : many - k ≡ suc (many - (k + 1)) = omega arith in rw e

  pub values-end : (k many : ℕ) → many ≤ k → values_behind types words k (many - k) ≡ []
  unfolding values_behind
  values-end k many h = let e : many - k ≡ 0 = omega arith in rw e

  pub values-none : (many : ℕ) → many ≡ 0 → values_of types words many ≡ 45 ∷ []
  unfolding values_of
  values-none many h = rw h

  pub values-some : (many : ℕ) → (many ≡ 0 → ⊥) → values_of types words many ≡ value_of (get_or types 0 0) (get_or words 0 0) ++ values_behind types words 1 (many - 1)
  unfolding values_of
  values-some zero h = absurd (h refl)
  values-some (suc many) h = let e : suc many - 1 ≡ many = omega arith in rw e
