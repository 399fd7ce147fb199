-- How a token goes on behind its first byte.
use Rattle.std.specs.Prelude.{ℕ, ◌+◌, ◌-◌, ◌≤◌, ◌<◌, ◌≡◌, List, Bool, true, false, cond, length, get_or, eqb}
use Prim.Native.Char.{code}
use Rattle.std.proofs.Math.Seq.{slice}
use Rattle.text.specs.Words.{within, digit, word_byte, munch_at}
use Rattle.text.specs.declared.Token.TheVariants as T
use Rattle.text.specs.Tokens.{word_token}
use Rattle.scan.specs.declared.words.Run.{Run}
use Rattle.scan.specs.declared.words.Run.TheVariants.{Name, Word}

-- a test tells what calls answer of a byte
abbrev pub Tells : (ℕ → Bool) → (ℕ → Bool → Type 0) → Type 0
Tells test answers = (b : ℕ) (r : Bool) → b < 256 → answers b r → r ≡ test b

-- calls take bytes of words alone
abbrev pub OfWords : (ℕ → Bool → Type 0) → Type 0
OfWords answers = (b : ℕ) → b < 256 → answers b true → word_byte b ≡ true

-- whether b is `:`, and `=` stands at the next place
abbrev pub colon_equals : List ℕ → ℕ → ℕ → Bool
colon_equals s next b = cond (eqb b (code ":")) (eqb (get_or s next 0) (code "=")) false

-- a letter that a keyword can have
abbrev pub small : ℕ → Bool
small b = within (code "a") (code "z") b

-- a byte of a name that no keyword has
abbrev pub mark : ℕ → Bool
mark b = cond (eqb b (code "_")) true (cond (digit b) true (within (code "A") (code "Z") b))

-- a place of a text whose last byte, below `0`, goes on no name
pub record Closed (s : List ℕ) (at : ℕ) : Type 0 where
  pub inside : at < length s
  pub last : get_or s (length s - 1) 0 < code "0"

-- a place behind bytes of a word that calls take, where they take none
pub record Ends (answers : ℕ → Bool → Type 0) (s : List ℕ) (at end : ℕ) : Type 0 where
  pub on : at ≤ end
  pub inside : end < length s
  pub other : answers (get_or s end 0) false
  pub same : munch_at word_byte s at ≡ munch_at word_byte s end

-- the place behind the word that starts at a place; a name is no keyword
abbrev pub RunEnds : List ℕ → ℕ → Run → Type 0
RunEnds s at (Name end) = (end ≡ munch_at word_byte s (at + 1)) × (word_token (slice at end s) ≡ T.Name)
RunEnds s at (Word end) = end ≡ munch_at word_byte s (at + 1)
