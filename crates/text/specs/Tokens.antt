-- Document 01, 'The text of a module': tokens, and refusal 2's "byte starts no token; block comment not closed".
use Rattle.std.specs.Prelude.{ℕ, ◌+◌, List, [], ◌∷◌, Bool, false, cond, length, get_or, eqb, ltb}
use Prim.Native.Char.{code}
use Rattle.std.proofs.Math.Seq.{slice}
use Rattle.model.specs.Bytes.{place_in}
use Rattle.text.specs.declared.Skipped.{Skipped}
use Rattle.text.specs.declared.Skipped.TheVariants.{Stop, Open}
use Rattle.text.specs.declared.Token.{Token}
use Rattle.text.specs.declared.Token.TheVariants as T
use Rattle.text.specs.declared.Lexed.{Lexed}
use Rattle.text.specs.Spaces.{spaces_at}
use Rattle.text.specs.Words.{letter, digit, word_byte, munch_at, keywords}

-- the number of each token
abbrev pub code_of : Token → ℕ
code_of T.Name = 0
code_of T.Number = 1
code_of T.LeftBrace = 2
code_of T.RightBrace = 3
code_of T.LeftBracket = 4
code_of T.RightBracket = 5
code_of T.LeftParen = 6
code_of T.RightParen = 7
code_of T.Semicolon = 8
code_of T.Equals = 9
code_of T.Dot = 10
code_of T.Becomes = 11
code_of T.Comma = 12
code_of T.Minus = 13
code_of T.KeyActuator = 14
code_of T.KeyAs = 15
code_of T.KeyAsynchronous = 16
code_of T.KeyConst = 17
code_of T.KeyFalse = 18
code_of T.KeyIf = 19
code_of T.KeyImport = 20
code_of T.KeyInit = 21
code_of T.KeyInput = 22
code_of T.KeyMode = 23
code_of T.KeyModule = 24
code_of T.KeyOutput = 25
code_of T.KeyPublic = 26
code_of T.KeySensor = 27
code_of T.KeyStart = 28
code_of T.KeyState = 29
code_of T.KeyStruct = 30
code_of T.KeyTask = 31
code_of T.KeyThen = 32
code_of T.KeyTrue = 33
code_of T.KeyType = 34
code_of T.KeyUses = 35
code_of T.End = 36
code_of T.Bad = 37

-- the tokens of the keywords, in the order of their list
unfoldable pub key_tokens : List Token
key_tokens =
    T.KeyActuator ∷
    T.KeyAs ∷
    T.KeyAsynchronous ∷
    T.KeyConst ∷
    T.KeyFalse ∷
    T.KeyIf ∷
    T.KeyImport ∷
    T.KeyInit ∷
    T.KeyInput ∷
    T.KeyMode ∷
    T.KeyModule ∷
    T.KeyOutput ∷
    T.KeyPublic ∷
    T.KeySensor ∷
    T.KeyStart ∷
    T.KeyState ∷
    T.KeyStruct ∷
    T.KeyTask ∷
    T.KeyThen ∷
    T.KeyTrue ∷
    T.KeyType ∷
    T.KeyUses ∷
    []

-- the token of keyword k, a name behind the last
abbrev pub key_token : ℕ → Token
key_token k = get_or key_tokens k T.Name

-- a word: a keyword where it is in their list, else a name
abbrev pub word_token : List ℕ → Token
word_token word = key_token (place_in keywords 0 word)

-- the sign that a byte alone is
unfoldable pub sign_token : ℕ → Token
sign_token b =
    cond (eqb b (code "{")) T.LeftBrace (
    cond (eqb b (code "}")) T.RightBrace (
    cond (eqb b (code "[")) T.LeftBracket (
    cond (eqb b (code "]")) T.RightBracket (
    cond (eqb b (code "(")) T.LeftParen (
    cond (eqb b (code ")")) T.RightParen (
    cond (eqb b (code ";")) T.Semicolon (
    cond (eqb b (code "=")) T.Equals (
    cond (eqb b (code ".")) T.Dot (
    cond (eqb b (code ",")) T.Comma (
    cond (eqb b (code "-")) T.Minus
    T.Bad))))))))))

-- a token with its first place and the place behind it
abbrev pub lexed : Token → ℕ → ℕ → Lexed
lexed token start end = record { token = token; start = start; end = end }

-- `:=`
abbrev pub becomes : List ℕ → ℕ → ℕ → Bool
becomes s at b = cond (eqb b (code ":")) (eqb (get_or s (at + 1) 0) (code "=")) false

-- the token whose first byte is b, at a place of the text
unfoldable pub token_from : List ℕ → ℕ → ℕ → Lexed
token_from s at b =
    let word_end = munch_at word_byte s (at + 1) in
    let word = lexed (word_token (slice at word_end s)) at word_end in
    let number = lexed T.Number at (munch_at digit s (at + 1)) in
    let sign = cond (becomes s at b) (lexed T.Becomes at (at + 1 + 1)) (lexed (sign_token b) at (at + 1)) in
    cond (letter b) word (cond (digit b) number sign)

-- the token that starts at a place; the end behind the last byte
abbrev pub starts_at : List ℕ → ℕ → Lexed
starts_at s at =
    let token = token_from s at (get_or s at 0) in
    cond (ltb at (length s)) token (lexed T.End at at)

-- the token behind white space and comments
abbrev pub behind : List ℕ → Skipped → Lexed
behind s (Stop at) = starts_at s at
behind s (Open from) = lexed T.Bad from from

-- the token at a place of the text, behind white space and comments
unfoldable pub token_at : List ℕ → ℕ → Lexed
token_at s at = behind s (spaces_at s at)

-- the number of the token at a place
abbrev pub code_at : List ℕ → ℕ → ℕ
code_at s at = code_of (token_at s at).token

-- whether a token is t, and whether the token at a place is t
abbrev pub is : Token → Lexed → Bool
is t lexed = eqb (code_of lexed.token) (code_of t)

-- whether the token at a place is this one
abbrev pub stands : Token → List ℕ → ℕ → Bool
stands t s at = eqb (code_at s at) (code_of t)
