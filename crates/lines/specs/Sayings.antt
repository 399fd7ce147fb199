-- What is said of numbers, bytes and values (docs/CONSOLE.md).
use Rattle.std.specs.Prelude.{ℕ, zero, suc, ◌+◌, ◌-◌, ◌/◌, ◌%◌, List, [], ◌∷◌, ◌++◌, cond, get_or, ltb, eqb}
use Prim.Native.Char.{code}

-- the digits of a number, of at most so many, before those that follow them
unfoldable pub digits_before : ℕ → ℕ → List ℕ → List ℕ
digits_before zero n after = after
digits_before (suc k) n after =
    let on = digits_before k (n / 10) ((code "0" + n % 10) ∷ after) in
    cond (ltb 9 n) on ((code "0" + n) ∷ after)

-- Numbers are decimal without leading zeros. A number of 64 bits has at most twenty digits.
abbrev pub decimal_of : ℕ → List ℕ
decimal_of n = digits_before 20 n []

-- the last hexadecimal digit of a number: 0 to 9 and a to f
unfoldable pub glyph_of : ℕ → ℕ
glyph_of n = cond (ltb (n % 16) 10) (code "0" + n % 16) (87 + n % 16)

-- bytes, each by two digits
unfoldable pub pairs_of : List ℕ → List ℕ
pairs_of [] = []
pairs_of (x ∷ xs) = glyph_of (x / 16) ∷ glyph_of x ∷ pairs_of xs

-- Byte strings: `-` is the empty one.
unfoldable pub hex_of : List ℕ → List ℕ
hex_of [] = code "-" ∷ []
hex_of (x ∷ xs) = pairs_of (x ∷ xs)

-- a word in two's complement as an int
unfoldable pub int_of : ℕ → List ℕ
int_of word = cond (ltb word 2147483648) (decimal_of word) (code "-" ∷ decimal_of (4294967296 - word))

-- a word as a value of its type: `b` and a boolean, `i` and an int
unfoldable pub value_of : ℕ → ℕ → List ℕ
value_of typ word = cond (eqb typ 1) (code "b" ∷ decimal_of word) (code "i" ∷ int_of word)

-- so many values more from a place on, a comma before each
unfoldable pub values_behind : List ℕ → List ℕ → ℕ → ℕ → List ℕ
values_behind types words k zero = []
values_behind types words k (suc n) = code "," ∷ (value_of (get_or types k 0) (get_or words k 0) ++ values_behind types words (k + 1) n)

-- Values: `-` is none of them; else values joined by commas.
unfoldable pub values_of : List ℕ → List ℕ → ℕ → List ℕ
values_of types words zero = code "-" ∷ []
values_of types words (suc n) = value_of (get_or types 0 0) (get_or words 0 0) ++ values_behind types words 1 n
