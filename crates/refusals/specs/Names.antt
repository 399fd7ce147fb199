-- Names: what is declared, and what a name means (document 01, 'The text of a module').
use Rattle.std.specs.Prelude.{ℕ, ◌+◌, List, [], ◌∷◌, Bool, true, false, cond, eqb, ltb}
use Rattle.std.proofs.Math.Seq.{slice}
use Rattle.text.specs.declared.Name.{Name}
use Rattle.model.specs.Bytes.{same}
use Rattle.model.specs.Rooms.{text_room}
use Rattle.refusals.specs.declared.Row.{Row}

-- the sorts of what is declared
abbrev pub constant_sort : ℕ
constant_sort = 0

-- a sensor
abbrev pub sensor_sort : ℕ
sensor_sort = 1

-- an actuator
abbrev pub actuator_sort : ℕ
actuator_sort = 2

-- a task
abbrev pub task_sort : ℕ
task_sort = 3

abbrev pub mode_sort : ℕ
mode_sort = 4

-- an input port
abbrev pub input_sort : ℕ
input_sort = 5

-- an output port
abbrev pub output_sort : ℕ
output_sort = 6

-- what no declaration stands for
abbrev pub no_sort : ℕ
no_sort = 7

-- the type of what has none, or of what is refused
abbrev pub no_type : ℕ
no_type = 2

-- Constants, sensors, actuators, tasks and modes share one name space; each task has its own for its ports.
abbrev pub module_scope : ℕ
module_scope = 0

-- the name space of a task's ports
abbrev pub task_scope : ℕ → ℕ
task_scope task = task + 1

-- what a name means that means nothing here; its number is none's, since a text has more bytes than declarations
abbrev pub unknown : Row
unknown = record { start = 0; end = 0; scope = module_scope; sort = no_sort; typ = no_type; value = text_room }

-- whether a name is declared
abbrev pub is_known : Row → Bool
is_known row = ltb row.sort no_sort

-- whether a name is not declared
abbrev pub is_unknown : Row → Bool
is_unknown row = eqb row.sort no_sort

-- the bytes of a name, or of digits
abbrev pub letters : List ℕ → Name → List ℕ
letters s name = slice name.start name.end s

-- the row is of this scope and has this name
abbrev pub is_row : List ℕ → ℕ → List ℕ → Row → Bool
is_row s scope word row = cond (eqb row.scope scope) (same (slice row.start row.end s) word) false

-- A name declared twice keeps its first meaning.
unfoldable pub find : List ℕ → List Row → ℕ → List ℕ → Row
find s [] scope word = unknown
find s (row ∷ rows) scope word =
    let on = find s rows scope word in
    cond (is_row s scope word row) row on

-- what a name means
abbrev pub meaning : List ℕ → List Row → ℕ → Name → Row
meaning s rows scope name = find s rows scope (letters s name)

-- a meaning where only this sort may stand
abbrev pub of_sort : ℕ → Row → Row
of_sort sort row = cond (eqb row.sort sort) row unknown

-- what a name means where only this sort may stand: nothing, if it is unknown or of another kind
unfoldable pub named : List ℕ → List Row → ℕ → ℕ → Name → Row
named s rows scope sort name = of_sort sort (meaning s rows scope name)

-- the number of rows of which a test holds
unfoldable pub count : (Row → Bool) → List Row → ℕ
count test [] = 0
count test (row ∷ rows) =
    let on = count test rows in
    cond (test row) (on + 1) on

-- their types, in order
unfoldable pub types : (Row → Bool) → List Row → List ℕ
types test [] = []
types test (row ∷ rows) =
    let on = types test rows in
    cond (test row) (row.typ ∷ on) on

-- of this sort; of this sort among the ports of a scope; a port
abbrev pub is_sort : ℕ → Row → Bool
is_sort sort row = eqb row.sort sort

-- whether a row is a port of this task and sort
abbrev pub is_port_of : ℕ → ℕ → Row → Bool
is_port_of scope sort row = cond (eqb row.scope scope) (eqb row.sort sort) false

-- whether a row is a port: a sensor's, an actuator's, an input or an output
abbrev pub is_port : Row → Bool
is_port row =
    cond (eqb row.sort sensor_sort) true
    (cond (eqb row.sort actuator_sort) true
    (cond (eqb row.sort input_sort) true
    (eqb row.sort output_sort)))

-- a name as it is declared
abbrev pub row_of : Name → ℕ → ℕ → ℕ → ℕ → Row
row_of name scope sort type value = record { start = name.start; end = name.end; scope = scope; sort = sort; typ = type; value = value }
