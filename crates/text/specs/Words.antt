-- Document 01, 'The text of a module': names, keywords and numbers.
use Rattle.std.specs.Prelude.{ℕ, ◌+◌, ◌-◌, ◌*◌, List, [], ◌∷◌, Bool, true, false, cond, get_or, drop, eqb, leb}
use Prim.Native.Char.{code}
use Rattle.model.specs.Bytes.{bytes}

-- whether a byte lies between two bytes
abbrev pub within : ℕ → ℕ → ℕ → Bool
within low high b = cond (leb low b) (leb b high) false

-- A name starts with a letter or `_`
abbrev pub letter : ℕ → Bool
letter b = cond (within (code "A") (code "Z") b) true (cond (within (code "a") (code "z") b) true (eqb b (code "_")))

-- whether a byte is a digit
abbrev pub digit : ℕ → Bool
digit b = within (code "0") (code "9") b

-- and goes on with letters, `_` and digits.
abbrev pub word_byte : ℕ → Bool
word_byte b = cond (letter b) true (digit b)

-- the place behind the longest run of bytes that p takes
unfoldable pub munch : (ℕ → Bool) → List ℕ → ℕ → ℕ
munch p [] at = at
munch p (x ∷ xs) at =
    let on = munch p xs (at + 1) in
    cond (p x) on at

-- the place behind the longest run from a place on
abbrev pub munch_at : (ℕ → Bool) → List ℕ → ℕ → ℕ
munch_at p s at = munch p (drop at s) at

-- A number is decimal digits: its value, exact however long it is.
unfoldable pub value_from : ℕ → List ℕ → ℕ
value_from n [] = n
value_from n (x ∷ xs) = value_from (n * 10 + (x - code "0")) xs

-- the exact value of digits, however many
abbrev pub value : List ℕ → ℕ
value digits = value_from 0 digits

-- Keywords, never names, are the 22 of the TDL report's list.
unfoldable pub keywords : List (List ℕ)
keywords =
    bytes "actuator" ∷
    bytes "as" ∷
    bytes "asynchronous" ∷
    bytes "const" ∷
    bytes "false" ∷
    bytes "if" ∷
    bytes "import" ∷
    bytes "init" ∷
    bytes "input" ∷
    bytes "mode" ∷
    bytes "module" ∷
    bytes "output" ∷
    bytes "public" ∷
    bytes "sensor" ∷
    bytes "start" ∷
    bytes "state" ∷
    bytes "struct" ∷
    bytes "task" ∷
    bytes "then" ∷
    bytes "true" ∷
    bytes "type" ∷
    bytes "uses" ∷
    []

-- the keyword of a number
abbrev pub keyword : ℕ → List ℕ
keyword k = get_or keywords k []
