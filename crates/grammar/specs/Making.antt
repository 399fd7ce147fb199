-- What the tokens of a production are read as: the item that they make, by their places in it.
use Rattle.std.specs.Prelude.{ℕ, suc, List, [], ◌∷◌, Bool, true, false, cond, eqb, get_or, drop}
use Rattle.model.specs.Bytes.{bytes, same}
use Rattle.text.specs.declared.Token.{Token}
use Rattle.text.specs.declared.Token.TheVariants as T
use Rattle.text.specs.declared.Name.{Name}
use Rattle.text.specs.declared.Port.{Port}
use Rattle.text.specs.declared.Literal.{Literal}
use Rattle.text.specs.declared.Literal.TheVariants.{Truth, Number, Named}
use Rattle.text.specs.declared.Item.{Item}
use Rattle.text.specs.declared.Item.TheVariants as I
use Rattle.text.specs.Tokens.{code_of}
use Rattle.grammar.specs.Expressions.{Letter}

-- whether a token is of a kind
abbrev pub is_a : Token → Letter → Bool
is_a t l = eqb (code_of l.token) (code_of t)

-- the token at a place of a production
abbrev pub letter_at : ℕ → List Letter → Letter
letter_at i ts = get_or ts i (record { token = T.End; start = 0; end = 0; bytes = [] })

-- its place in the text, as a name's or a number's
abbrev pub name_in : ℕ → List Letter → Name
name_in i ts = record { start = (letter_at i ts).start; end = (letter_at i ts).end }

-- Value: "true", "false", ["-"] number, or a name, that stands first
unfoldable pub value_in : List Letter → Literal
value_in ts =
    cond (is_a T.KeyTrue (letter_at 0 ts)) (Truth (letter_at 0 ts).start true) (
    cond (is_a T.KeyFalse (letter_at 0 ts)) (Truth (letter_at 0 ts).start false) (
    cond (is_a T.Minus (letter_at 0 ts)) (Number (letter_at 0 ts).start (name_in 1 ts) true) (
    cond (is_a T.Number (letter_at 0 ts)) (Number (letter_at 0 ts).start (name_in 0 ts) false)
    (Named (name_in 0 ts)))))

-- the tokens behind it
unfoldable pub past_value : List Letter → List Letter
past_value ts = cond (is_a T.Minus (letter_at 0 ts)) (drop 2 ts) (drop 1 ts)

-- Port: a name, or name "." name, that stands first
unfoldable pub port_in : List Letter → Port
port_in ts = cond (is_a T.Dot (letter_at 1 ts)) (record { first = name_in 0 ts; second = name_in 2 ts; dotted = true }) (record { first = name_in 0 ts; second = name_in 0 ts; dotted = false })

-- name
abbrev pub as_module : List Letter → Item
as_module ts = I.Module (name_in 0 ts)

-- the keyword of a section
abbrev pub as_section : List Letter → Item
as_section ts = I.Section

-- name "=" value ";"
abbrev pub as_constant : List Letter → Item
as_constant ts = I.Constant (name_in 0 ts) (value_in (drop 2 ts))

-- type name "uses" name ";"
abbrev pub as_sensor : List Letter → Item
as_sensor ts = I.Sensor (name_in 0 ts) (name_in 1 ts) (name_in 3 ts)

-- type name ":=" value "uses" name ";"
abbrev pub as_actuator : List Letter → Item
as_actuator ts = I.Actuator (name_in 0 ts) (name_in 1 ts) (value_in (drop 3 ts)) (name_in 1 (past_value (drop 3 ts)))

-- name
abbrev pub as_task : List Letter → Item
as_task ts = I.TaskBegin (name_in 0 ts)

-- type name ";"
abbrev pub as_input : List Letter → Item
as_input ts = I.Input (name_in 0 ts) (name_in 1 ts)

-- type name ":=" value ";"
abbrev pub as_output : List Letter → Item
as_output ts = I.Output (name_in 0 ts) (name_in 1 ts) (value_in (drop 3 ts))

-- the name behind "uses"
abbrev pub as_task_end : List Letter → Item
as_task_end ts = I.TaskEnd (name_in 0 ts)

-- "mode" name "[" "period" "=" number unit "]" "{", of a mode that begins at a place
abbrev pub as_mode : Bool → ℕ → List Letter → Item
as_mode start at ts = I.ModeBegin start at (name_in 1 ts) (name_in 5 ts) (same (letter_at 6 ts).bytes (bytes "ms"))

-- ["start"] "mode" name "[" "period" "=" number unit "]" "{"
unfoldable pub as_mode_begin : List Letter → Item
as_mode_begin ts = cond (is_a T.KeyStart (letter_at 0 ts)) (as_mode true (letter_at 0 ts).start (drop 1 ts)) (as_mode false (letter_at 0 ts).start ts)

-- "[" "freq" "=" number "]" of an activity of kind k
abbrev pub as_activity : ℕ → List Letter → Item
as_activity k ts = I.Activity k (letter_at 0 ts).start (name_in 3 ts)

-- the name behind "if"; its number of arguments is counted below
abbrev pub as_guard : List Letter → Item
as_guard ts = I.Guard (name_in 0 ts) 0

-- arg
abbrev pub as_guard_arg : List Letter → Item
as_guard_arg ts = I.GuardArg (port_in ts)

-- name; its number of arguments is counted below
abbrev pub as_invoke : List Letter → Item
as_invoke ts = I.Invoke (name_in 0 ts) 0

-- port
abbrev pub as_arg : List Letter → Item
as_arg ts = I.Arg (port_in ts)

-- name ":=" port ";"
abbrev pub as_update : List Letter → Item
as_update ts = I.Update (name_in 0 ts) (port_in (drop 2 ts))

-- name
abbrev pub as_switch : List Letter → Item
as_switch ts = I.Switch (name_in 0 ts)

-- "}" of a mode
abbrev pub as_mode_end : List Letter → Item
as_mode_end ts = I.ModeEnd

-- "}" of the module
abbrev pub as_module_end : List Letter → Item
as_module_end ts = I.ModuleEnd

-- the end of the text
abbrev pub as_end : List Letter → Item
as_end ts = I.End

-- ---- the number of arguments that follow an item

-- the item with this number, where it has one
unfoldable pub with_count : ℕ → Item → Item
with_count n (I.Module name) = I.Module name
with_count n I.Section = I.Section
with_count n (I.Constant name value) = I.Constant name value
with_count n (I.Sensor typ name getter) = I.Sensor typ name getter
with_count n (I.Actuator typ name value setter) = I.Actuator typ name value setter
with_count n (I.TaskBegin name) = I.TaskBegin name
with_count n (I.Input typ name) = I.Input typ name
with_count n (I.Output typ name value) = I.Output typ name value
with_count n (I.TaskEnd name) = I.TaskEnd name
with_count n (I.ModeBegin start at name digits milli) = I.ModeBegin start at name digits milli
with_count n (I.Activity kind at digits) = I.Activity kind at digits
with_count n (I.Guard name count) = I.Guard name n
with_count n (I.GuardArg port) = I.GuardArg port
with_count n (I.Invoke task count) = I.Invoke task n
with_count n (I.Arg port) = I.Arg port
with_count n (I.Update actuator source) = I.Update actuator source
with_count n (I.Switch name) = I.Switch name
with_count n I.ModeEnd = I.ModeEnd
with_count n I.ModuleEnd = I.ModuleEnd
with_count n I.End = I.End
with_count n (I.No number at) = I.No number at

-- one more than n where the item is an argument
unfoldable pub arguments_by : Item → ℕ → ℕ
arguments_by (I.Module name) n = 0
arguments_by I.Section n = 0
arguments_by (I.Constant name value) n = 0
arguments_by (I.Sensor typ name getter) n = 0
arguments_by (I.Actuator typ name value setter) n = 0
arguments_by (I.TaskBegin name) n = 0
arguments_by (I.Input typ name) n = 0
arguments_by (I.Output typ name value) n = 0
arguments_by (I.TaskEnd name) n = 0
arguments_by (I.ModeBegin start at name digits milli) n = 0
arguments_by (I.Activity kind at digits) n = 0
arguments_by (I.Guard name count) n = 0
arguments_by (I.GuardArg port) n = suc n
arguments_by (I.Invoke task count) n = 0
arguments_by (I.Arg port) n = suc n
arguments_by (I.Update actuator source) n = 0
arguments_by (I.Switch name) n = 0
arguments_by I.ModeEnd n = 0
arguments_by I.ModuleEnd n = 0
arguments_by I.End n = 0
arguments_by (I.No number at) n = 0

-- how many arguments stand first
unfoldable pub arguments_in : List Item → ℕ
arguments_in [] = 0
arguments_in (item ∷ items) = arguments_by item (arguments_in items)

-- the items, each with the number of arguments that stand behind it
unfoldable pub counted : List Item → List Item
counted [] = []
counted (item ∷ items) = with_count (arguments_in items) item ∷ counted items
