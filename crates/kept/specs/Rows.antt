-- A row of the array as an item: kind, state and place before it, state and place behind it, and the item's own numbers.
use Rattle.std.specs.Prelude.{ℕ, ◌+◌, ◌-◌, ◌/◌, ◌%◌, List, [], ◌∷◌, cond, eqb, ltb, get_or}
use Rattle.text.specs.declared.Name.{Name}
use Rattle.text.specs.declared.Port.{Port}
use Rattle.text.specs.declared.Literal.{Literal}
use Rattle.text.specs.declared.Literal.TheVariants as L
use Rattle.text.specs.declared.State.{State}
use Rattle.text.specs.declared.State.TheVariants as Q
use Rattle.text.specs.declared.Item.{Item}
use Rattle.text.specs.declared.Item.TheVariants as I
use Rattle.text.specs.declared.ReadItem.{ReadItem}

-- An item in twelve numbers: which kind, and what it holds.
pub record Fields : Type 0 where
  pub kind : ℕ
  pub one : ℕ
  pub two : ℕ
  pub three : ℕ
  pub four : ℕ
  pub five : ℕ
  pub six : ℕ
  pub seven : ℕ
  pub eight : ℕ
  pub nine : ℕ
  pub ten : ℕ
  pub eleven : ℕ

-- the states of a section but the last
abbrev pub states : ℕ → List State
states k = Q.Begin ∷ Q.Module k ∷ Q.Task k ∷ Q.Mode k ∷ Q.Act k ∷ Q.Guarded k ∷ Q.GuardArgs k ∷ Q.Args ∷ []

-- the state of a number: the rest by 16 says which, what is in front of it the section
unfoldable pub state_of : ℕ → State
state_of n = get_or (states (n / 16 % 256)) (n % 16) Q.Finish

-- a name by its start and its end
abbrev pub name_of : ℕ → ℕ → Name
name_of start end = record { start = start; end = end }

-- a port by five numbers
abbrev pub port_of : ℕ → ℕ → ℕ → ℕ → ℕ → Port
port_of a b c d e = record { first = name_of a b; second = name_of c d; dotted = eqb e 1 }

-- the values but a name
abbrev pub literals : ℕ → ℕ → ℕ → ℕ → List Literal
literals at flag start end = L.Truth at (eqb flag 1) ∷ L.Number at (name_of start end) (eqb flag 1) ∷ []

-- a value by five numbers: its kind, its place, whether it is true or has a minus, its start and its end
unfoldable pub literal_of : ℕ → ℕ → ℕ → ℕ → ℕ → Literal
literal_of kind at flag start end = get_or (literals at flag start end) kind (L.Named (name_of start end))

-- a name, a port and a value from a place of a row on
abbrev pub name_at : List ℕ → ℕ → Name
name_at row at = name_of (get_or row at 0) (get_or row (at + 1) 0)

abbrev pub port_at : List ℕ → ℕ → Port
port_at row at = port_of (get_or row at 0) (get_or row (at + 1) 0) (get_or row (at + 2) 0) (get_or row (at + 2 + 1) 0) (get_or row (at + 4) 0)

abbrev pub literal_at : List ℕ → ℕ → Literal
literal_at row at = literal_of (get_or row at 0) (get_or row (at + 1) 0) (get_or row (at + 2) 0) (get_or row (at + 3) 0) (get_or row (at + 3 + 1) 0)

-- the items that stand before the modes, but the last
abbrev pub declarations : Fields → List Item
declarations f =
    let first = name_of f.one f.two in
    let second = name_of f.three f.four in
    I.Module first
    ∷ I.Section
    ∷ I.Constant first (literal_of f.three f.four f.five f.six f.seven)
    ∷ I.Sensor first second (name_of f.five f.six)
    ∷ I.Actuator first second (literal_of f.five f.six f.seven f.eight f.nine) (name_of f.ten f.eleven)
    ∷ I.TaskBegin first
    ∷ I.Input first second
    ∷ I.Output first second (literal_of f.five f.six f.seven f.eight f.nine)
    ∷ []

unfoldable pub declaration_of : ℕ → Fields → Item
declaration_of kind f = get_or (declarations f) kind (I.TaskEnd (name_of f.one f.two))

-- the items of a mode, and the ends
abbrev pub acts : Fields → List Item
acts f =
    let first = name_of f.one f.two in
    let port = port_of f.one f.two f.three f.four f.five in
    I.ModeBegin (eqb f.three 1) f.four first (name_of f.five f.six) (eqb f.seven 1)
    ∷ I.Activity (f.three % 256) f.four first
    ∷ I.Guard first f.three
    ∷ I.GuardArg port
    ∷ I.Invoke first f.three
    ∷ I.Arg port
    ∷ I.Update first (port_of f.three f.four f.five f.six f.seven)
    ∷ I.Switch first
    ∷ I.ModeEnd
    ∷ I.ModuleEnd
    ∷ I.End
    ∷ []

-- these, or else a refusal
unfoldable pub act_of : ℕ → Fields → Item
act_of kind f = get_or (acts f) kind (I.No (f.three % 256) f.four)

-- the item of twelve numbers
unfoldable pub item_of : Fields → Item
item_of f = cond (ltb f.kind 9) (declaration_of f.kind f) (act_of (f.kind - 9) f)

-- the twelve numbers of a row
abbrev pub fields_in : List ℕ → Fields
fields_in row =
    record {
      kind = get_or row 0 0;
      one = get_or row 5 0;
      two = get_or row 6 0;
      three = get_or row 7 0;
      four = get_or row 8 0;
      five = get_or row 9 0;
      six = get_or row 10 0;
      seven = get_or row 11 0;
      eight = get_or row 12 0;
      nine = get_or row 13 0;
      ten = get_or row 14 0;
      eleven = get_or row 15 0;
    }

-- the item of a row, and the state and the place behind it
abbrev pub read_of : List ℕ → ReadItem
read_of row = record { item = item_of (fields_in row); state = state_of (get_or row 3 0); next = get_or row 4 0 }
