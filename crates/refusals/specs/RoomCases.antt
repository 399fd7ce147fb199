-- Document 01, 'Room on the board', by cases: a full table passes, and the first name or activity too many is 11 at its place.
-- The items stand as if read; their names are pairs of letters of one short text.
use Rattle.std.specs.Prelude.{ℕ, zero, suc, ◌+◌, ◌*◌, ◌%◌, ◌/◌, List, [], ◌∷◌, ◌++◌, Bool, true, false, ◌&&◌, T}
use Prim.Native.Char.{code}
use Rattle.model.specs.Bytes.{bytes, same, place_in}
use Rattle.text.specs.declared.Name.{Name}
use Rattle.text.specs.declared.Port.{Port}
use Rattle.text.specs.declared.Literal.TheVariants.{Truth}
use Rattle.text.specs.declared.Item.{Item}
use Rattle.text.specs.declared.Item.TheVariants as I
use Rattle.refusals.specs.Checks.{is_fine}
use Rattle.refusals.specs.Reading.{answer_by}
use Rattle.refusals.specs.Cases.{is_no}

-- two letters for each number, behind the words that the items need
abbrev pairs : ℕ → List ℕ
pairs zero = []
pairs (suc n) = pairs n ++ ((code "a" + n % 26) ∷ (code "a" + n / 26) ∷ [])

unfoldable pub text : List ℕ
text = bytes "boolean1" ++ pairs 66

abbrev part : ℕ → ℕ → Name
part start end = record { start = start; end = end }

abbrev boolean : Name
boolean = part 0 7

abbrev one : Name
one = part 7 8

abbrev name_at : ℕ → ℕ
name_at k = 8 + 2 * k

abbrev name : ℕ → Name
name k = part (name_at k) (name_at k + 2)

-- items for each number below n
abbrev each : ℕ → (ℕ → List Item) → List Item
each zero piece = []
each (suc n) piece = each n piece ++ piece n

abbrev constant : ℕ → List Item
constant k = I.Constant (name k) (Truth 0 true) ∷ []

abbrev sensor : ℕ → List Item
sensor k = I.Sensor boolean (name k) one ∷ []

abbrev actuator : ℕ → List Item
actuator k = I.Actuator boolean (name k) (Truth 0 true) one ∷ []

abbrev input : ℕ → List Item
input k = I.Input boolean (name k) ∷ []

abbrev output : ℕ → List Item
output k = I.Output boolean (name k) (Truth 0 true) ∷ []

abbrev task : List Item → ℕ → List Item
task ports k = I.TaskBegin (name k) ∷ (ports ++ (I.TaskEnd one ∷ []))

abbrev mode : List Item → ℕ → List Item
mode acts k = I.ModeBegin false 0 (name k) one false ∷ (acts ++ (I.ModeEnd ∷ []))

-- a switch of mode 0 whose "[" stands at k
abbrev switch : ℕ → List Item
switch k = I.Activity 4 k one ∷ I.Switch (name 0) ∷ []

abbrev source : Port
source = record { first = name 2; second = name 2; dotted = false }

-- an invocation, an update, and then n switches
abbrev busy : ℕ → List Item
busy n =
    sensor 2 ++ (actuator 3 ++ (task [] 1 ++
    mode (I.Activity 2 0 one ∷ I.Invoke (name 1) 0 ∷ I.Activity 3 0 one ∷ I.Update (name 3) source ∷ each n switch) 0))

-- nothing is too many
abbrev fits : List Item → Bool
fits items = is_fine (answer_by text items)

-- 11 at a place, and nothing left of it
abbrev too_many : ℕ → List Item → Bool
too_many at items = is_no 11 at (answer_by text items)

-- so many fit, and one more does not
abbrev room : ℕ → (ℕ → List Item) → Bool
room n piece = too_many (name_at n) (each (suc n) piece)

abbrev room_in_task : ℕ → (ℕ → List Item) → Bool
room_in_task n piece = too_many (name_at n) (task (each (suc n) piece) 0)

-- n tasks of eight ports, and one with one port more
abbrev room_in_all : ℕ → (ℕ → List Item) → Bool
room_in_all n piece = too_many (name_at 8) (each n (task (each 8 piece)) ++ task (piece 8) n)

pub declarations : T (room 64 constant && (room 32 sensor && (room 32 actuator && (room 32 (task []) && room 8 (mode [])))))
unfolding text same place_in answer_by
declarations = tt

pub ports : T (room_in_task 8 input && (room_in_task 8 output && (room_in_all 16 input && room_in_all 16 output)))
unfolding text same place_in answer_by
ports = tt

-- inputs and outputs are counted apart, in a task and in all
pub ports-apart : T (fits (task (each 8 input ++ each 8 (λ k. output (8 + k))) 0) && fits (each 16 (task (each 8 input)) ++ task (output 8) 16))
unfolding text same place_in answer_by
ports-apart = tt

-- 30 switches fit beside an invocation and an update, and the next activity does not
pub activities : T (too_many 30 (busy 31) && fits (busy 30))
unfolding text same place_in answer_by
activities = tt
