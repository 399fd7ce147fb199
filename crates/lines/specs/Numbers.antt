-- Numbers and byte strings in a line (docs/CONSOLE.md).
use Rattle.std.specs.Prelude.{ℕ, ◌+◌, ◌-◌, ◌*◌, ◌/◌, ◌%◌, ◌≤◌, min, ◌≡◌, List, [], ◌∷◌, Bool, true, false, cond, Option, Some, None, is_some, unwrap_or, length, eqb, leb, ltb}
use Prim.Native.Char.{code}
use Rattle.model.specs.Bytes.{bytes, same}
use Rattle.text.specs.Words.{within, digit, value}
use Rattle.lines.specs.Buffers.{written}

-- the digits 0 to 9, and where they are hexadecimal a to f
unfoldable pub digit_in : Bool → ℕ → Bool
digit_in hex b = cond (digit b) true (cond hex (within (code "a") (code "f") b) false)

-- whether a test holds of each byte
unfoldable pub all : (ℕ → Bool) → List ℕ → Bool
all p [] = true
all p (x ∷ xs) =
    let on = all p xs in
    cond (p x) on false

-- one or more digits
unfoldable pub digits : Bool → List ℕ → Bool
digits hex w = cond (eqb (length w) 0) false (all (digit_in hex) w)

-- Numbers: one or more decimal digits, leading zeros as many as one likes; a value beyond 32 bits counts as 4,294,967,296.
unfoldable pub number_of : List ℕ → Option ℕ
number_of w = cond (digits false w) (Some (min (value w) 4294967296)) None

-- Numbers of a request: of a value up to 4,294,967,295
unfoldable pub small_of : List ℕ → Option ℕ
small_of w = cond (digits false w) (cond (ltb (value w) 4294967296) (Some (value w)) None) None

-- the value of a hexadecimal digit
unfoldable pub hex_worth : ℕ → ℕ
hex_worth b = cond (digit b) (b - code "0") (cond (within (code "a") (code "f") b) (b - 87) 0)

-- the bytes of pairs of digits
unfoldable pub bytes_of : List ℕ → List ℕ
bytes_of [] = []
bytes_of (high ∷ []) = []
bytes_of (high ∷ low ∷ rest) = (hex_worth high * 16 + hex_worth low) ∷ bytes_of rest

-- Byte strings: `-` is the empty one; else an even number of hexadecimal digits, no more than there is room for.
unfoldable pub unspelled_of : List ℕ → ℕ → Option ℕ
unspelled_of w room =
    cond (same w (bytes "-")) (Some 0)
    (cond (digits true w)
    (cond (eqb (length w % 2) 0) (cond (leb (length w / 2) room) (Some (length w / 2)) None) None)
    None)

-- the bytes stand at the room's begin where they are good, and else the room is as before
pub record Unspells (w room then : List ℕ) (r : Option ℕ) : Type 0 where
  pub answer : r ≡ unspelled_of w (length room)
  pub held : then ≡ cond (is_some r) (written room 0 (bytes_of w)) room
  pub fits : unwrap_or r 0 ≤ length then
