-- Tokens by their numbers.
use Rattle.std.specs.Prelude.{ℕ, ◌<◌, ◌≡◌, eqb, ltb, true, false}
use Rattle.std.proofs.Common.{refl, sym, ap, ◌∙◌, arith}
use mathlib.Core.Logic.{◌⊎◌, inl, inr}
use borrow.Author.Tests.{eq-eqb, ne_eqb, lt-ltb}
use denote.Enum.Declared.{tag_of, rowss}
use denote.Enum.Enum.{tag_below}
use denote.Enum.Bare.{sameb, tag_one}
use Rattle.text.specs.contracts.Token.{the_type}
use Rattle.text.specs.declared.Token.{Token}
use Rattle.text.specs.declared.Token.TheVariants as T
use Rattle.text.specs.declared.Lexed.{Lexed}
use Rattle.text.specs.Tokens.{code_of, is}

-- the number that == compares is the token's
tag-code : (t : Token) → tag_of the_type t ≡ code_of t
tag-code T.Name = refl
tag-code T.Number = refl
tag-code T.LeftBrace = refl
tag-code T.RightBrace = refl
tag-code T.LeftBracket = refl
tag-code T.RightBracket = refl
tag-code T.LeftParen = refl
tag-code T.RightParen = refl
tag-code T.Semicolon = refl
tag-code T.Equals = refl
tag-code T.Dot = refl
tag-code T.Becomes = refl
tag-code T.Comma = refl
tag-code T.Minus = refl
tag-code T.KeyActuator = refl
tag-code T.KeyAs = refl
tag-code T.KeyAsynchronous = refl
tag-code T.KeyConst = refl
tag-code T.KeyFalse = refl
tag-code T.KeyIf = refl
tag-code T.KeyImport = refl
tag-code T.KeyInit = refl
tag-code T.KeyInput = refl
tag-code T.KeyMode = refl
tag-code T.KeyModule = refl
tag-code T.KeyOutput = refl
tag-code T.KeyPublic = refl
tag-code T.KeySensor = refl
tag-code T.KeyStart = refl
tag-code T.KeyState = refl
tag-code T.KeyStruct = refl
tag-code T.KeyTask = refl
tag-code T.KeyThen = refl
tag-code T.KeyTrue = refl
tag-code T.KeyType = refl
tag-code T.KeyUses = refl
tag-code T.End = refl
tag-code T.Bad = refl

pub same_is : (found : Lexed) (t : Token) → sameb the_type found.token t ≡ is t found
same_is found t = rw (tag-code found.token, tag-code t)

-- two tokens with one number are the same
pub same-code : (a b : Token) → code_of a ≡ code_of b → a ≡ b
same-code a b e = tag_one the_type tt a b (tag-code a ∙ e ∙ sym (tag-code b))

few : (t : Token) → code_of t < 38
few t = rw (← tag-code t) (tag_below (rowss the_type.parts) (the_type.to t))

-- any token but the end and bytes that start none
pub last-code : (t : Token) → (t ≡ T.End) ⊎ (t ≡ T.Bad) → ltb (code_of t) 36 ≡ false
last-code t (inl e) = rw e
last-code t (inr e) = rw e

pub earlier-code : (t : Token) → (t ≡ T.End → ⊥) → (t ≡ T.Bad → ⊥) → ltb (code_of t) 36 ≡ true
earlier-code t end bad = lt-ltb (code_of t) 36 (below (few t) (λ e. end (same-code t T.End e)) (λ e. bad (same-code t T.Bad e)))
  where
    below : {n : ℕ} → n < 38 → (n ≡ 36 → ⊥) → (n ≡ 37 → ⊥) → n < 36
    below h a b = omega arith

pub other_code : (t x : Token) → (x ≡ t → ⊥) → eqb (code_of x) (code_of t) ≡ false
other_code t x other = ne_eqb (code_of x) (code_of t) (λ e. other (same-code x t e))

pub other-token : (t : Token) (l : Lexed) → (l.token ≡ t → ⊥) → is t l ≡ false
other-token t l other = other_code t l.token other

pub same-token : (t : Token) (l : Lexed) → l.token ≡ t → is t l ≡ true
same-token t l e = eq-eqb (code_of l.token) (code_of t) (ap code_of e)
