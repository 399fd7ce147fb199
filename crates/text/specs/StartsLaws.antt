-- Which token starts at a place, by its first byte.
use Rattle.std.specs.Prelude.{ℕ, ◌+◌, ◌≤◌, ◌<◌, ◌≡◌, List, true, false, length, get_or}
use Rattle.std.proofs.Common.{lt-ltb, le-ltb}
use Rattle.std.proofs.Math.Seq.{slice}
use Rattle.text.specs.declared.Skipped.{Skipped}
use Rattle.text.specs.declared.Skipped.TheVariants.{Stop, Open}
use Rattle.text.specs.declared.Token.TheVariants as T
use Rattle.text.specs.Spaces.{spaces_at}
use Rattle.text.specs.Words.{letter, digit, word_byte, munch_at}
use Rattle.text.specs.Tokens.{word_token, sign_token, lexed, becomes, token_from, starts_at, token_at}

pub starts-end : (s : List ℕ) (i : ℕ) → length s ≤ i → starts_at s i ≡ lexed T.End i i
starts-end s i h = simp (le-ltb _ _ h)

module _ (s : List ℕ) (i : ℕ) (h : i < length s) where
  pub starts-word : letter (get_or s i 0) ≡ true → starts_at s i ≡ lexed (word_token (slice i (munch_at word_byte s (i + 1)) s)) i (munch_at word_byte s (i + 1))
  unfolding token_from
  starts-word l = simp (lt-ltb _ _ h, l)

  pub starts-number : letter (get_or s i 0) ≡ false → digit (get_or s i 0) ≡ true → starts_at s i ≡ lexed T.Number i (munch_at digit s (i + 1))
  unfolding token_from
  starts-number l d = simp (lt-ltb _ _ h, l, d)

  pub starts-becomes : letter (get_or s i 0) ≡ false → digit (get_or s i 0) ≡ false → becomes s i (get_or s i 0) ≡ true → starts_at s i ≡ lexed T.Becomes i (i + 1 + 1)
  unfolding token_from
  starts-becomes l d b = simp (lt-ltb _ _ h, l, d, b)

  pub starts-sign : letter (get_or s i 0) ≡ false → digit (get_or s i 0) ≡ false → becomes s i (get_or s i 0) ≡ false → starts_at s i ≡ lexed (sign_token (get_or s i 0)) i (i + 1)
  unfolding token_from
  starts-sign l d b = simp (lt-ltb _ _ h, l, d, b)

module _ (s : List ℕ) (at : ℕ) (skipped : Skipped) (p : skipped ≡ spaces_at s at) where
  pub token-behind : (i : ℕ) → skipped ≡ Stop i → token_at s at ≡ starts_at s i
  unfolding token_at
  token-behind i e = let q : spaces_at s at ≡ Stop i = cc in rw q

  pub token-open : (from : ℕ) → skipped ≡ Open from → token_at s at ≡ lexed T.Bad from from
  unfolding token_at
  token-open from e = let q : spaces_at s at ≡ Open from = cc in rw q
