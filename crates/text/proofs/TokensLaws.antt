-- Where tokens stand: at or behind their place, inside the text, and none but the end and a bad one is empty.
use Rattle.std.specs.Prelude.{ℕ, zero, suc, ◌+◌, ◌≤◌, ◌<◌, ◌≡◌, refl, List, [], ◌∷◌, Bool, true, false, cond, length, get_or, drop, eqb, ltb, T}
use Prim.Native.Char.{code}
use Rattle.std.proofs.Common.{arith, ltb-true, ltb-false, eqb-true, le-ltb, length-drop, ltb→lt}
use Rattle.std.proofs.lemmas.Bool.{eqb-false}
use Rattle.std.proofs.Math.ListN.{get_or-eq_default}
use Rattle.std.proofs.Math.Seq.{slice}
use Rattle.model.specs.Bytes.{place_in}
use Rattle.text.specs.declared.Skipped.{Skipped}
use Rattle.text.specs.declared.Skipped.TheVariants.{Stop, Open}
use Rattle.text.specs.declared.Token.{Token}
use Rattle.text.specs.declared.Lexed.{Lexed}
use Rattle.text.specs.Spaces.{white, spaces, slash, line, block, star, spaces_at}
use Rattle.text.proofs.SpacesLaws.{spaces-end}
use Rattle.text.specs.Words.{letter, digit, word_byte, munch, munch_at, keywords}
use Rattle.text.specs.EachEntry.{both, both_left, both_right}
use Rattle.text.specs.Tokens.{code_of, key_tokens, key_token, sign_token, lexed, token_from, starts_at, behind, token_at, code_at}
-- ---- white space and comments

use Rattle.text.specs.TokensLaws.{TokenHere, TokenIn, Within}

cond-within : {low high : ℕ} {x y : Skipped} (b : Bool) → Within low high x → Within low high y → Within low high (cond b x y)
cond-within true p q = p
cond-within false p q = q

mutual
  unfolding spaces

  spaces-within : (xs : List ℕ) (at low high : ℕ) → low ≤ at → at + length xs ≤ high → Within low high (spaces xs at)
  spaces-within [] at low high h k = record { least = h; most = omega arith }
  spaces-within (x ∷ xs) at low high h k =
      cond-within (white x) (spaces-within xs (at + 1) low high (omega arith) (omega arith))
      (cond-within (eqb x 47) (slash-within xs at low high h (omega arith)) (record { least = h; most = omega arith }))

  slash-within : (xs : List ℕ) (at low high : ℕ) → low ≤ at → at + 1 + length xs ≤ high → Within low high (slash xs at)
  slash-within [] at low high h k = record { least = h; most = omega arith }
  slash-within (x ∷ xs) at low high h k =
      cond-within (eqb x 47) (line-within xs (at + 1 + 1) low high (omega arith) (omega arith))
      (cond-within (eqb x 42) (block_within xs (at + 1 + 1) at low high h (omega arith) (omega arith)) (record { least = h; most = omega arith }))

  line-within : (xs : List ℕ) (at low high : ℕ) → low ≤ at → at + length xs ≤ high → Within low high (line xs at)
  line-within [] at low high h k = record { least = h; most = omega arith }
  line-within (x ∷ xs) at low high h k =
      cond-within (eqb x 10) (spaces-within xs (at + 1) low high (omega arith) (omega arith)) (line-within xs (at + 1) low high (omega arith) (omega arith))

  block_within : (xs : List ℕ) (at from low high : ℕ) → low ≤ from → from ≤ at → at + length xs ≤ high → Within low high (block xs at from)
  block_within [] at from low high h f k = record { least = h; most = omega arith }
  block_within (x ∷ xs) at from low high h f k =
      cond-within (eqb x 42) (star-within xs (at + 1) from low high h (omega arith) (omega arith)) (block_within xs (at + 1) from low high h (omega arith) (omega arith))

  star-within : (xs : List ℕ) (at from low high : ℕ) → low ≤ from → from ≤ at → at + length xs ≤ high → Within low high (star xs at from)
  star-within [] at from low high h f k = record { least = h; most = omega arith }
  star-within (x ∷ xs) at from low high h f k =
      cond-within (eqb x 47) (spaces-within xs (at + 1) low high (omega arith) (omega arith))
      (cond-within (eqb x 42) (star-within xs (at + 1) from low high h (omega arith) (omega arith)) (block_within xs (at + 1) from low high h (omega arith) (omega arith)))

pub spaces-at-within : (s : List ℕ) (at : ℕ) → at ≤ length s → Within at (length s) (spaces_at s at)
spaces-at-within s at h = let d = length-drop at s in spaces-within (drop at s) at at (length s) (omega arith) (omega (arith, d))

-- ---- the longest run
munch-within : (p : ℕ → Bool) (xs : List ℕ) (at : ℕ) → (at ≤ munch p xs at) × (munch p xs at ≤ at + length xs)
unfolding munch
munch-within p [] at = omega arith
munch-within p (x ∷ xs) at = by (p x) (munch-within p xs (at + 1))
  where
    by : (b : Bool) → (at + 1 ≤ munch p xs (at + 1)) × (munch p xs (at + 1) ≤ at + 1 + length xs) → (at ≤ cond b (munch p xs (at + 1)) at) × (cond b (munch p xs (at + 1)) at ≤ at + suc (length xs))
    by true m = omega arith
    by false m = omega arith

pub munch-at-within : (p : ℕ → Bool) (s : List ℕ) (at : ℕ) → at ≤ length s → (at ≤ munch_at p s at) × (munch_at p s at ≤ length s)
munch-at-within p s at h =
    let m = munch-within p (drop at s) at in
    let d = length-drop at s in
    (m.0, omega (arith, m.1, d))

-- ---- no word and no sign is the end
abbrev below : List Token → Bool
below [] = true
below (token ∷ tokens) = both (ltb (code_of token) 36) (below tokens)

in-below : (tokens : List Token) → T (below tokens) → (k : ℕ) → code_of (get_or tokens k Token.Name) < 36
in-below [] t k = omega arith
in-below (token ∷ tokens) t zero = ltb→lt _ _ (both_left (ltb (code_of token) 36) (below tokens) t)
in-below (token ∷ tokens) t (suc k) = in-below tokens (both_right (ltb (code_of token) 36) (below tokens) t) k

record Other (token : Token) : Type 0 where
  no_end : code_of token ≡ 36 → ⊥

other : (token : Token) → eqb (code_of token) 36 ≡ false → Other token
other token e = record { no_end = eqb-false _ _ e }

cond-other : {x y : Token} (b : Bool) → Other x → Other y → Other (cond b x y)
cond-other true p q = p
cond-other false p q = q

word-other : (k : ℕ) → Other (key_token k)
unfolding key_tokens
word-other k = record { no_end = λ e. omega (arith, e, in-below key_tokens tt k) }

sign-other : (b : ℕ) → Other (sign_token b)
unfolding sign_token
sign-other b =
    cond-other (eqb b (code "{")) (other Token.LeftBrace refl) (
    cond-other (eqb b (code "}")) (other Token.RightBrace refl) (
    cond-other (eqb b (code "[")) (other Token.LeftBracket refl) (
    cond-other (eqb b (code "]")) (other Token.RightBracket refl) (
    cond-other (eqb b (code "(")) (other Token.LeftParen refl) (
    cond-other (eqb b (code ")")) (other Token.RightParen refl) (
    cond-other (eqb b (code ";")) (other Token.Semicolon refl) (
    cond-other (eqb b (code "=")) (other Token.Equals refl) (
    cond-other (eqb b (code ".")) (other Token.Dot refl) (
    cond-other (eqb b (code ",")) (other Token.Comma refl) (
    cond-other (eqb b (code "-")) (other Token.Minus refl) (
    other Token.Bad refl)))))))))))

cond-in : {s : List ℕ} {at : ℕ} {x y : Lexed} (b : Bool) → TokenIn s at x → TokenIn s at y → TokenIn s at (cond b x y)
cond-in true p q = p
cond-in false p q = q

full-in : (token : Token) (s : List ℕ) (at start end : ℕ) → Other token → at ≤ start → start < end → end ≤ length s → TokenIn s at (lexed token start end)
full-in token s at start end o h k m = record { low = h; up = omega arith; high = m; some = λ q. k; last = λ e. absurd (o.no_end e) }

-- a byte that is there
there : (s : List ℕ) (i : ℕ) → eqb (get_or s i 0) 61 ≡ true → i < length s
there s i e = by (ltb i (length s)) refl
  where
    by : (b : Bool) → ltb i (length s) ≡ b → i < length s
    by true l = ltb-true _ _ l
    by false l = absurd (omega (arith, get_or-eq_default s 0 (ltb-false i (length s) l), eqb-true (get_or s i 0) 61 e))

from_in : (s : List ℕ) (at i b : ℕ) → at ≤ i → i < length s → TokenIn s at (token_from s i b)
unfolding token_from
from_in s at i b h k =
    let w = munch-at-within word_byte s (i + 1) (omega arith) in
    let d = munch-at-within digit s (i + 1) (omega arith) in
    cond-in (letter b) (full-in _ s at i _ (word-other (place_in keywords 0 (slice i (munch_at word_byte s (i + 1)) s))) h (omega arith) w.1)
    (cond-in (digit b) (full-in _ s at i _ (other Token.Number refl) h (omega arith) d.1)
    (sign (eqb b 58) (eqb (get_or s (i + 1) 0) 61) refl))
  where
    sign : (x y : Bool) → eqb (get_or s (i + 1) 0) 61 ≡ y → TokenIn s at (cond (cond x y false) (lexed Token.Becomes i (i + 1 + 1)) (lexed (sign_token b) i (i + 1)))
    sign true true e = full-in _ s at i _ (other Token.Becomes refl) h (omega arith) (omega (arith, there s (i + 1) e))
    sign true false e = full-in _ s at i _ (sign-other b) h (omega arith) (omega arith)
    sign false y e = full-in _ s at i _ (sign-other b) h (omega arith) (omega arith)

end-in : (s : List ℕ) (at i : ℕ) → at ≤ i → i ≤ length s → length s ≤ i → TokenIn s at (lexed Token.End i i)
end-in s at i h k l = record { low = h; up = omega arith; high = k; some = λ q. absurd (omega (arith, q)); last = λ q. omega arith }

starts-in : (s : List ℕ) (at i : ℕ) → at ≤ i → i ≤ length s → TokenIn s at (starts_at s i)
starts-in s at i h k = by (ltb i (length s)) refl
  where
    by : (b : Bool) → ltb i (length s) ≡ b → TokenIn s at (cond b (token_from s i (get_or s i 0)) (lexed Token.End i i))
    by true e = from_in s at i (get_or s i 0) h (ltb-true _ _ e)
    by false e = end-in s at i h k (ltb-false i (length s) e)

behind-in : (s : List ℕ) (at : ℕ) (skipped : Skipped) → Within at (length s) skipped → TokenIn s at (behind s skipped)
behind-in s at (Open from) w = record { low = w.least; up = omega arith; high = w.most; some = λ q. absurd (omega (arith, q)); last = λ q. absurd (omega (arith, q)) }
behind-in s at (Stop i) w = starts-in s at i w.least w.most

pub token-in : (s : List ℕ) (at : ℕ) → at ≤ length s → TokenIn s at (token_at s at)
unfolding token_at
token-in s at h = behind-in s at (spaces_at s at) (spaces-at-within s at h)

-- behind the text there is nothing but the end
beyond : (s : List ℕ) (at : ℕ) → length s ≤ at → code_at s at ≡ 36
unfolding token_at
beyond s at h = rw (spaces-end s at h) (simp (le-ltb at (length s) h))

-- a token that is neither the end nor a bad one, wherever it was looked for
pub token-here : (s : List ℕ) (at : ℕ) → code_at s at < 36 → TokenHere s at (token_at s at)
token-here s at c = by (ltb at (length s)) refl
  where
    by : (b : Bool) → ltb at (length s) ≡ b → TokenHere s at (token_at s at)
    by true e =
        let l = ltb-true at (length s) e in
        let t = token-in s at (omega arith) in
        record { place = l; low = t.low; some = t.some c; high = t.high }
    by false e = absurd (omega (arith, c, beyond s at (ltb-false at (length s) e)))
