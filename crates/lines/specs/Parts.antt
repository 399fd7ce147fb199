-- Words of a line, with one blank between two of them (docs/CONSOLE.md).
use Rattle.std.specs.Prelude.{ℕ, zero, suc, ◌+◌, ◌-◌, ◌≤◌, ◌<◌, min, ◌≡◌, refl, List, [], ◌∷◌, Bool, true, false, not, cond, length, take, drop, eqb, leb, ltb, Option, Some, None}
use Rattle.std.proofs.Common.{sym, ap, ◌∙◌, arith, leb-true, leb-false, ltb-false, length-drop, take_all}
use Rattle.std.proofs.lemmas.List.Sums.{prefix_len-le-length}
use Rattle.std.proofs.Math.Seq.{slice, slice_empty, take-length, take-nil, drop-nil}
use Rattle.scan.specs.Slices.{slice-clamp, slice-none}
use Rattle.std.specs.List.{position_or_len, position}
use Rattle.std.specs.Option.{option_map_or}
use Rattle.text.specs.Words.{munch, munch_at}
use Rattle.text.proofs.TokensLaws.{munch-at-within}
use Rattle.lines.specs.declared.Part.{Part}

-- whether a byte is another one
abbrev pub differs : ℕ → ℕ → Bool
differs byte b = not (eqb b byte)

-- the place of the first such byte from a place on; the line's end where there is none
abbrev pub find_of : List ℕ → ℕ → ℕ → ℕ
find_of line at byte = munch_at (differs byte) line (min at (length line))

-- the word that begins at a place: its end is the next blank, and the next word is behind that
abbrev pub word_at : List ℕ → ℕ → Part
word_at line at = record { from = at; to = find_of line at 32; next = find_of line at 32 + 1 }

-- that place, and that it lies in the line
pub record Found (line : List ℕ) (at byte r : ℕ) : Type 0 where
  pub place : r ≡ find_of line at byte
  pub from : min at (length line) ≤ r
  pub fits : r ≤ length line

-- ---- laws

pub found : (line : List ℕ) (at byte r : ℕ) → r ≡ find_of line at byte → Found line at byte r
found line at byte r e =
    let within = munch-at-within (differs byte) line (min at (length line)) (omega arith) in
    record { place = e; from = rw e within.0; fits = rw e within.1 }

-- that place, as an iterator finds it
munch-first : (byte at : ℕ) (x : ℕ) (xs : List ℕ) → munch (differs byte) xs (at + 1) ≡ at + 1 + position_or_len (λ b. eqb b byte) xs → munch (differs byte) (x ∷ xs) at ≡ at + position_or_len (λ b. eqb b byte) (x ∷ xs)
unfolding munch
munch-first byte at x xs h = go (eqb x byte) refl
  where
    go : (t : Bool) → eqb x byte ≡ t → munch (differs byte) (x ∷ xs) at ≡ at + position_or_len (λ b. eqb b byte) (x ∷ xs)
    go true e = simp e (omega arith)
    go false e = simp e (rw h (omega arith))

munch-position : (byte : ℕ) (xs : List ℕ) (at : ℕ) → munch (differs byte) xs at ≡ at + position_or_len (λ b. eqb b byte) xs
unfolding munch
munch-position byte [] at = omega arith
munch-position byte (x ∷ xs) at = munch-first byte at x xs (munch-position byte xs (at + 1))

place-in : (p : ℕ → Bool) (xs : List ℕ) (from long : ℕ) → long ≡ from + length xs → option_map_or (λ n. from + n) (position p xs) long ≡ from + position_or_len p xs
place-in p xs from long e = go (ltb (position_or_len p xs) (length xs)) refl
  where
    go : (t : Bool) → ltb (position_or_len p xs) (length xs) ≡ t → option_map_or (λ (n : ℕ). from + n) (cond t (Some (position_or_len p xs)) None) long ≡ from + position_or_len p xs
    go true h = refl
    go false h =
        let n : length xs ≤ position_or_len p xs = ltb-false _ _ h in
        let m : position_or_len p xs ≤ length xs = prefix_len-le-length (λ (b : ℕ). not (p b)) xs in
        omega arith

pub find-position : (line : List ℕ) (at byte from : ℕ) → from ≡ min at (length line) → (r : Option ℕ) → r ≡ position (λ b. eqb b byte) (take (length line - from) (drop from line)) → option_map_or (λ n. from + n) r (length line) ≡ find_of line at byte
find-position line at byte from e r q =
    let l = length-drop from line in
    let all = take_all (length line - from) (drop from line) (omega arith) in
    rw (← e, munch-position byte (drop from line) from, q, all) (place-in (λ b. eqb b byte) (drop from line) from (length line) (omega arith))

-- what is behind the first bytes, as a part that ends with the whole
pub part-behind : (n : ℕ) (w : List ℕ) → slice n (length w) w ≡ drop n w
part-behind n w = ap (λ (l : List ℕ). drop n l) (take-length w)

drop-take : (b n : ℕ) (s : List ℕ) → take n (drop b s) ≡ drop b (take (b + n) s)
drop-take zero n s = let e : zero + n ≡ n = omega arith in rw e
drop-take (suc b) n [] = rw (take-nil n, take-nil (suc b + n), drop-nil (suc b))
drop-take (suc b) n (x ∷ xs) = let e : suc b + n ≡ suc (b + n) = omega arith in rw e (drop-take b n xs)

-- a part as it is lent: both its places no further than the line goes
pub cut-is : (f t e b : ℕ) (s : List ℕ) → e ≡ min t (length s) → b ≡ min f e → take (e - b) (drop b s) ≡ slice f t s
cut-is f t e b s p q =
    let m : b + (e - b) ≡ e = omega arith in
    drop-take b (e - b) s ∙ rw m (go (leb f e) refl)
  where
    go : (l : Bool) → leb f e ≡ l → slice b e s ≡ slice f t s
    go true h =
        let k : f ≤ e = leb-true f e h in
        let same : b ≡ f = omega arith in
        rw (same, p) (sym (slice-clamp f t s))
    go false h =
        let k : e < f = leb-false f e h in
        let same : b ≡ e = omega arith in
        rw same (slice_empty e s ∙ sym (slice-clamp f t s ∙ rw (← p) (slice-none f e s (omega arith))))
