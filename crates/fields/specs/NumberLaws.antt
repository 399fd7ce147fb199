-- How a number stands at the front of the bytes, as the code takes it from them.
use Rattle.std.specs.Prelude.{ℕ, ◌+◌, ◌-◌, ◌*◌, ◌≤◌, ◌<◌, ◌≡◌, refl, List, [], ◌∷◌, length, get_or, take, drop}
use Rattle.std.proofs.Common.{arith, sym, ap, ◌∙◌, take_all, length-drop}
use Rattle.std.specs.Int.{from_be_bytes, w16, w32}
use Rattle.codec.specs.Readings.{got, no}
use Rattle.codec.specs.Numbers.{byte, be}
use Rattle.codec.proofs.Numbers.{byte_at, byte-missing, be-missing, be2-at, be4-at}

-- what stands behind the first n bytes
behind : (n : ℕ) (s : List ℕ) → take (length s - n) (drop n s) ≡ drop n s
behind n s = take_all (length s - n) (drop n s) (omega (arith, length-drop n s))

pub byte-front : (s : List ℕ) → 1 ≤ length s → byte.get s ≡ got (get_or s 0 0) (take (length s - 1) (drop 1 s))
byte-front s h = byte_at s 0 h ∙ ap (λ (r : List ℕ). got (get_or s 0 0) r) (sym (behind 1 s))

pub byte-none : (s : List ℕ) → length s < 1 → byte.get s ≡ no 22
byte-none s h = byte-missing s 0 (omega arith)

pair-value : (a b : ℕ) → a * 256 + b ≡ from_be_bytes w16 (a ∷ b ∷ [])
pair-value a b = omega arith

quad-value : (a b c d : ℕ) → a * 16777216 + (b * 65536 + (c * 256 + d)) ≡ from_be_bytes w32 (a ∷ b ∷ c ∷ d ∷ [])
quad-value a b c d = omega arith

pub pair-front : (s : List ℕ) → 2 ≤ length s → (be 2).get s ≡ got (from_be_bytes w16 (get_or s 0 0 ∷ get_or s 1 0 ∷ [])) (take (length s - 2) (drop 2 s))
pair-front s h = be2-at s 0 h ∙ rw (behind 2 s, pair-value (get_or s 0 0) (get_or s 1 0)) refl

pub pair_none : (s : List ℕ) → length s < 2 → (be 2).get s ≡ no 22
pair_none s h = be-missing 2 s 0 (omega arith)

pub quad-front : (s : List ℕ) → 4 ≤ length s
    → (be 4).get s ≡ got (from_be_bytes w32 (get_or s 0 0 ∷ get_or s 1 0 ∷ get_or s 2 0 ∷ get_or s 3 0 ∷ [])) (take (length s - 4) (drop 4 s))
quad-front s h = be4-at s 0 h ∙ rw (behind 4 s, quad-value (get_or s 0 0) (get_or s 1 0) (get_or s 2 0) (get_or s 3 0)) refl

pub quad_none : (s : List ℕ) → length s < 4 → (be 4).get s ≡ no 22
quad_none s h = be-missing 4 s 0 (omega arith)

pub ruleset number_laws = (byte-front, byte-none, pair-front, pair_none, quad-front, quad_none)
