-- Bytes that start a token: signs, and those that are no small letter and no sign.
use Rattle.std.specs.Prelude.{ℕ, ◌+◌, ◌<◌, ◌≡◌, refl, List, true, false, Option, Some, None, length, get_or, eqb}
use Rattle.std.proofs.Common.{sym, ap, ◌∙◌, arith}
use Rattle.std.proofs.Math.Seq.{slice}
use Rattle.std.proofs.lemmas.Bool.{eqb-false}
use Rattle.text.specs.declared.Token as tokens
use Rattle.text.specs.declared.Token.TheVariants as Token
use Rattle.text.specs.Spaces.{white}
use Rattle.text.proofs.SpacesLaws.{spaces-other}
use Rattle.text.specs.Words.{letter, digit, word_byte, munch_at}
use Rattle.text.specs.Tokens.{word_token, sign_token, lexed, starts_at, token_at}
use Rattle.text.specs.StartsLaws as starts
use Rattle.text.proofs.TokensLaws.{munch-at-within}
use Rattle.scan.specs.Runs.{small, colon_equals}
use Rattle.scan.specs.WordBytes.{named, small-letter, digit-letter}

-- a byte that starts no word, no number and no `:=`
pub record Plain (b : ℕ) : Type 0 where
  pub unlettered : letter b ≡ false
  pub uncounted : digit b ≡ false
  pub uncolon : eqb b 58 ≡ false

-- what is told of a byte: the sign that it is, or that it is none
abbrev pub SignOf : ℕ → Option tokens.Token → Type 0
SignOf b (Some t) = Plain b × (sign_token b ≡ t)
SignOf b None = sign_token b ≡ Token.Bad

pub sign-is : {b : ℕ} (k : ℕ) → Plain k → b ≡ k → SignOf b (Some (sign_token k))
sign-is k p e = (rw e p, ap sign_token e)

-- a place whose byte is b, no small letter and no sign
pub record Other (s : List ℕ) (at b : ℕ) : Type 0 where
  pub inside : at < length s
  pub byte : get_or s at 0 ≡ b
  pub large : small b ≡ false
  pub unsigned : sign_token b ≡ Token.Bad

-- the word that starts with a small letter
pub starts-small : (s : List ℕ) (at end : ℕ) → at < length s → small (get_or s at 0) ≡ true → end ≡ munch_at word_byte s (at + 1) → starts_at s at ≡ lexed (word_token (slice at end s)) at end
starts-small s at end h l e = rw e (starts.starts-word s at h (small-letter (get_or s at 0) l))

-- the token that a sign is
pub starts-plain : (s : List ℕ) (at b : ℕ) → at < length s → get_or s at 0 ≡ b → Plain b → starts_at s at ≡ lexed (sign_token b) at (at + 1)
starts-plain s at b h e p =
    let l : letter (get_or s at 0) ≡ false = rw e p.unlettered in
    let d : digit (get_or s at 0) ≡ false = rw e p.uncounted in
    let c : eqb (get_or s at 0) 58 ≡ false = rw e p.uncolon in
    starts.starts-sign s at h l d (simp c) ∙ rw e

-- a byte that is a sign wherever it is reached
pub record Standing (b : ℕ) (t : tokens.Token) : Type 0 where
  pub plain : Plain b
  pub dark : white b ≡ false
  pub unslashed : eqb b 47 ≡ false
  pub sign : sign_token b ≡ t

pub left-brace : Standing 123 Token.LeftBrace
unfolding sign_token
left-brace = record { plain = record { unlettered = refl; uncounted = refl; uncolon = refl }; dark = refl; unslashed = refl; sign = refl }

pub right-brace : Standing 125 Token.RightBrace
unfolding sign_token
right-brace = record { plain = record { unlettered = refl; uncounted = refl; uncolon = refl }; dark = refl; unslashed = refl; sign = refl }

pub left-bracket : Standing 91 Token.LeftBracket
unfolding sign_token
left-bracket = record { plain = record { unlettered = refl; uncounted = refl; uncolon = refl }; dark = refl; unslashed = refl; sign = refl }

pub right-bracket : Standing 93 Token.RightBracket
unfolding sign_token
right-bracket = record { plain = record { unlettered = refl; uncounted = refl; uncolon = refl }; dark = refl; unslashed = refl; sign = refl }

pub left-paren : Standing 40 Token.LeftParen
unfolding sign_token
left-paren = record { plain = record { unlettered = refl; uncounted = refl; uncolon = refl }; dark = refl; unslashed = refl; sign = refl }

pub right-paren : Standing 41 Token.RightParen
unfolding sign_token
right-paren = record { plain = record { unlettered = refl; uncounted = refl; uncolon = refl }; dark = refl; unslashed = refl; sign = refl }

pub semicolon : Standing 59 Token.Semicolon
unfolding sign_token
semicolon = record { plain = record { unlettered = refl; uncounted = refl; uncolon = refl }; dark = refl; unslashed = refl; sign = refl }

pub equals : Standing 61 Token.Equals
unfolding sign_token
equals = record { plain = record { unlettered = refl; uncounted = refl; uncolon = refl }; dark = refl; unslashed = refl; sign = refl }

pub dot : Standing 46 Token.Dot
unfolding sign_token
dot = record { plain = record { unlettered = refl; uncounted = refl; uncolon = refl }; dark = refl; unslashed = refl; sign = refl }

pub comma : Standing 44 Token.Comma
unfolding sign_token
comma = record { plain = record { unlettered = refl; uncounted = refl; uncolon = refl }; dark = refl; unslashed = refl; sign = refl }

pub minus : Standing 45 Token.Minus
unfolding sign_token
minus = record { plain = record { unlettered = refl; uncounted = refl; uncolon = refl }; dark = refl; unslashed = refl; sign = refl }

-- the token at a place where such a byte stands
pub at_once : (s : List ℕ) (at b : ℕ) (t : tokens.Token) → at < length s → get_or s at 0 ≡ b → Standing b t → token_at s at ≡ lexed t at (at + 1)
at_once s at b t h e p =
    let reached = spaces-other s at h (rw e p.dark) (λ q. eqb-false _ _ p.unslashed (sym e ∙ q)) in
    starts.token-behind s at _ refl at reached ∙ starts-plain s at b h e p.plain ∙ rw p.sign

module _ (s : List ℕ) (at b : ℕ) (o : Other s at b) where
  pub starts-number : digit b ≡ true → starts_at s at ≡ lexed Token.Number at (munch_at digit s (at + 1))
  starts-number d = starts.starts-number s at o.inside (rw o.byte (digit-letter b d)) (rw o.byte d)

  pub starts-name : letter b ≡ true → starts_at s at ≡ lexed Token.Name at (munch_at word_byte s (at + 1))
  starts-name l =
      let end = munch_at word_byte s (at + 1) in
      let within = munch-at-within word_byte s (at + 1) (omega (arith, o.inside)) in
      let name = named s at at end (omega arith) (omega (arith, within.0)) within.1 (rw o.byte o.large) in
      starts.starts-word s at o.inside (rw o.byte l) ∙ rw name

  pub starts-becomes : letter b ≡ false → digit b ≡ false → colon_equals s (at + 1) b ≡ true → starts_at s at ≡ lexed Token.Becomes at (at + 1 + 1)
  starts-becomes l d c = starts.starts-becomes s at o.inside (rw o.byte l) (rw o.byte d) (rw o.byte c)

  pub starts-bad : letter b ≡ false → digit b ≡ false → colon_equals s (at + 1) b ≡ false → starts_at s at ≡ lexed Token.Bad at (at + 1)
  starts-bad l d c = starts.starts-sign s at o.inside (rw o.byte l) (rw o.byte d) (rw o.byte c) ∙ rw (o.byte, o.unsigned)
