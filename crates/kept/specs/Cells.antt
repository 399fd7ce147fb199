-- How a name, a port and a value lie in a row: the numbers that are written, and that they are read back.
use Rattle.std.specs.Prelude.{ℕ, ◌≡◌, refl, List, [], ◌∷◌, Bool, true, false, eqb}
use mir.Val.{bool_byte}
use Rattle.text.specs.declared.Name.{Name}
use Rattle.text.specs.declared.Port.{Port}
use Rattle.text.specs.declared.Literal.{Literal}
use Rattle.text.specs.declared.Literal.TheVariants as L
use Rattle.kept.specs.Rows.{name_of, literal_of}

pub bit_back : (b : Bool) → eqb (bool_byte b) 1 ≡ b
bit_back true = refl
bit_back false = refl

abbrev pub name_cells : Name → List ℕ
name_cells name = name.start ∷ name.end ∷ []

abbrev pub port_cells : Port → List ℕ
port_cells port = port.first.start ∷ port.first.end ∷ port.second.start ∷ port.second.end ∷ bool_byte port.dotted ∷ []

-- the kind, the place, the flag and the name of a value
abbrev pub sort_of : Literal → ℕ
sort_of (L.Truth at truth) = 0
sort_of (L.Number at digits minus) = 1
sort_of (L.Named name) = 2

abbrev pub place_of : Literal → ℕ
place_of (L.Truth at truth) = at
place_of (L.Number at digits minus) = at
place_of (L.Named name) = 0

abbrev pub flag_of : Literal → Bool
flag_of (L.Truth at truth) = truth
flag_of (L.Number at digits minus) = minus
flag_of (L.Named name) = false

abbrev pub word_of : Literal → Name
word_of (L.Truth at truth) = name_of 0 0
word_of (L.Number at digits minus) = digits
word_of (L.Named name) = name

abbrev pub value_cells : Literal → List ℕ
value_cells value = sort_of value ∷ place_of value ∷ bool_byte (flag_of value) ∷ (word_of value).start ∷ (word_of value).end ∷ []

pub value_back : (value : Literal) → literal_of (sort_of value) (place_of value) (bool_byte (flag_of value)) (word_of value).start (word_of value).end ≡ value
unfolding literal_of
value_back (L.Truth at truth) = rw (bit_back truth)
value_back (L.Number at digits minus) = rw (bit_back minus)
value_back (L.Named name) = refl
