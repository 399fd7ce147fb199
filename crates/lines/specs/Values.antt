-- Values in a line (docs/CONSOLE.md).
use Rattle.std.specs.Prelude.{ℕ, ◌-◌, ◌≤◌, min, ◌≡◌, List, [], ◌∷◌, Bool, true, false, cond, Option, Some, None, is_some, unwrap_or, length, get_or, drop, eqb, leb, ltb}
use Rattle.std.specs.Option.{option_map}
use Prim.Native.Char.{code}
use Rattle.model.specs.Bytes.{bytes, same}
use Rattle.lines.specs.Buffers.{written}
use Rattle.lines.specs.Numbers.{number_of}
use Rattle.lines.specs.declared.values.Value.{Value}

-- An int outside 32 bits is a value of a wrong type.
abbrev pub beyond : Value
beyond = record { typ = 2; word = 0 }

-- an int, by its word
abbrev pub int_value : ℕ → Value
int_value n = record { typ = 0; word = n }

-- a boolean, 0 or 1
abbrev pub boolean_value : ℕ → Value
boolean_value n = record { typ = 1; word = n }

-- `b0` and `b1`
unfoldable pub boolean_in : List ℕ → Option Value
boolean_in w = cond (same w (bytes "b0")) (Some (boolean_value 0)) (cond (same w (bytes "b1")) (Some (boolean_value 1)) None)

-- an int of such a size
unfoldable pub positive_of : ℕ → Value
positive_of n = cond (ltb n 2147483648) (int_value n) beyond

-- a negative int of such a size, in two's complement
unfoldable pub negative_of : ℕ → Value
negative_of n = cond (eqb n 0) (int_value 0) (cond (leb n 2147483648) (int_value (4294967296 - n)) beyond)

-- `i`, an optional `-` and digits
unfoldable pub int_in : List ℕ → Option Value
int_in w = cond (eqb (get_or w 1 0) (code "-")) (option_map negative_of (number_of (drop 2 w))) (option_map positive_of (number_of (drop 1 w)))

-- a value is an int or a boolean
unfoldable pub value_in : List ℕ → Option Value
value_in w = cond (eqb (get_or w 0 0) (code "i")) (int_in w) (boolean_in w)

-- a byte in front of the first word
abbrev pub onto : ℕ → List (List ℕ) → List (List ℕ)
onto b [] = (b ∷ []) ∷ []
onto b (w ∷ ws) = (b ∷ w) ∷ ws

-- the words between commas
unfoldable pub pieces : List ℕ → List (List ℕ)
pieces [] = [] ∷ []
pieces (b ∷ bs) =
    let on = pieces bs in
    cond (eqb b (code ",")) ([] ∷ on) (onto b on)

-- Values: `-` is none of them; else values joined by commas.
unfoldable pub list_in : List ℕ → List (List ℕ)
list_in w = cond (same w (bytes "-")) [] (pieces w)

-- whether each word is a value
unfoldable pub all_values : List (List ℕ) → Bool
all_values [] = true
all_values (w ∷ ws) =
    let on = all_values ws in
    cond (is_some (value_in w)) on false

-- the types of the values, in their order
unfoldable pub types_in : List (List ℕ) → List ℕ
types_in [] = []
types_in (w ∷ ws) = (unwrap_or (value_in w) beyond).typ ∷ types_in ws

-- their words, in their order
unfoldable pub words_in : List (List ℕ) → List ℕ
words_in [] = []
words_in (w ∷ ws) = (unwrap_or (value_in w) beyond).word ∷ words_in ws

-- whether all of a list are values, and how many there is room for
unfoldable pub listed_of : List (List ℕ) → ℕ → Option ℕ
listed_of ws room = cond (all_values ws) (Some (min (length ws) room)) None

-- types and words stand at the begin where all are values, and else all is as before
pub record Lists (w types words types_then words_then : List ℕ) (r : Option ℕ) : Type 0 where
  pub answer : r ≡ listed_of (list_in w) (min (length types) (length words))
  pub types-held : types_then ≡ cond (is_some r) (written types 0 (types_in (list_in w))) types
  pub words-held : words_then ≡ cond (is_some r) (written words 0 (words_in (list_in w))) words
  pub types-fit : unwrap_or r 0 ≤ length types_then
  pub words-fit : unwrap_or r 0 ≤ length words_then
