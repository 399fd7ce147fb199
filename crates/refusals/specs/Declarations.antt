-- What an item declares, and the rules 4, 5 and 11 that a declared name must keep.
use Rattle.std.specs.Prelude.{ℕ, List, [], ◌∷◌, ◌++◌, get_or}
use Rattle.text.specs.declared.Name.{Name}
use Rattle.text.specs.declared.Item.{Item}
use Rattle.text.specs.declared.Item.TheVariants as I
use Rattle.model.specs.Rooms.{constant_room, sensor_room, actuator_room, task_room, mode_room, port_room, all_port_room}
use Rattle.refusals.specs.declared.Row.{Row}
use Rattle.refusals.specs.Checks.{Check}
use Rattle.refusals.specs.Names.{meaning, module_scope, constant_sort, sensor_sort, actuator_sort, task_sort, mode_sort, input_sort, output_sort, no_type, count, is_sort, is_port, is_port_of, row_of}
use Rattle.refusals.specs.Refusals.{long_name, declared_twice, full}
use Rattle.refusals.specs.Values.{type_named, literal_type, literal_word}

-- A task, or a mode, has the number of those before it;
abbrev pub tasks_in : List Row → ℕ
tasks_in rows = count (is_sort task_sort) rows

abbrev pub modes_in : List Row → ℕ
modes_in rows = count (is_sort mode_sort) rows

-- and so has a port: sensors, actuators, then task by task inputs and outputs.
abbrev pub ports_in : List Row → ℕ
ports_in rows = count is_port rows

-- the scope of the ports of the last task so far
abbrev pub last_scope : List Row → ℕ
last_scope rows = tasks_in rows

-- what an item declares, where these rows stand before it
abbrev pub declares : List ℕ → List Row → Item → List Row
declares s rows (I.Module name) = []
declares s rows I.Section = []
declares s rows (I.Constant name value) = row_of name module_scope constant_sort (literal_type s rows value) (literal_word s rows value) ∷ []
declares s rows (I.Sensor typ name getter) = row_of name module_scope sensor_sort (type_named s typ) (ports_in rows) ∷ []
declares s rows (I.Actuator typ name value setter) = row_of name module_scope actuator_sort (type_named s typ) (ports_in rows) ∷ []
declares s rows (I.TaskBegin name) = row_of name module_scope task_sort no_type (tasks_in rows) ∷ []
declares s rows (I.Input typ name) = row_of name (last_scope rows) input_sort (type_named s typ) (ports_in rows) ∷ []
declares s rows (I.Output typ name value) = row_of name (last_scope rows) output_sort (type_named s typ) (ports_in rows) ∷ []
declares s rows (I.TaskEnd name) = []
declares s rows (I.ModeBegin start at name digits milli) = row_of name module_scope mode_sort no_type (modes_in rows) ∷ []
declares s rows (I.Activity kind at digits) = []
declares s rows (I.Guard name arguments) = []
declares s rows (I.GuardArg port) = []
declares s rows (I.Invoke task arguments) = []
declares s rows (I.Arg port) = []
declares s rows (I.Update actuator source) = []
declares s rows (I.Switch name) = []
declares s rows I.ModeEnd = []
declares s rows I.ModuleEnd = []
declares s rows I.End = []
declares s rows (I.No number at) = []

-- the rows behind some items
unfoldable pub rows_after : List ℕ → List Row → List Item → List Row
rows_after s rows [] = rows
rows_after s rows (item ∷ items) = rows_after s (rows ++ declares s rows item) items

-- the room of each sort in the module's name space
abbrev pub room_of : ℕ → ℕ
room_of sort = get_or (constant_room ∷ sensor_room ∷ actuator_room ∷ task_room ∷ mode_room ∷ []) sort 0

-- a name declared in the module's name space
unfoldable pub new_rules : List ℕ → List Row → ℕ → Name → List Check
new_rules s rows sort name =
    long_name name ∷
    declared_twice (meaning s rows module_scope name) name ∷
    full (room_of sort) (count (is_sort sort) rows) name.start ∷
    []

-- an input or output, declared in its task's: per task, and in all
unfoldable pub new_port_rules : List ℕ → List Row → ℕ → Name → List Check
new_port_rules s rows sort name =
    long_name name ∷
    declared_twice (meaning s rows (last_scope rows) name) name ∷
    full port_room (count (is_port_of (last_scope rows) sort) rows) name.start ∷
    full all_port_room (count (is_sort sort) rows) name.start ∷
    []
