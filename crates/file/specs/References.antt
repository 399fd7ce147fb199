-- What a table's numbers refer to (document 01, 'The file', refusal 24).
use Rattle.std.specs.Prelude.{Bool, true, false, ◌&&◌, ◌||◌, List, [], ◌∷◌, ◌++◌, map, ℕ, ◌+◌, ltb, eqb, length, get_or}
use Rattle.model.specs.Bytes.{place_in}
use Rattle.model.specs.Values.{int, boolean, function_names}
use Rattle.model.specs.Modules.{Sensor, Actuator, Task, no_task, each, port_types}
use Rattle.model.specs.Instructions.{Instr, nop, future, call, release, iff, jump, return, switch, Driver, updates, releases, terminates}
use Rattle.file.specs.Tables.{Argument, port, fixed, GuardRow, ModeRow, Table}
use Rattle.file.specs.Parts.{all_in}

-- ---- ports: what each is, by number; 0 where there is none

-- a sensor's port
abbrev pub sensor_role : ℕ
sensor_role = 1

-- an actuator's port
abbrev pub actuator_role : ℕ
actuator_role = 2

-- an input port
abbrev pub input_role : ℕ
input_role = 3

-- an output port
abbrev pub output_role : ℕ
output_role = 4

-- the roles of a task's ports, inputs first
abbrev pub task_roles : Task → List ℕ
task_roles t = map (λ i. input_role) t.inputs ++ map (λ o. output_role) t.outputs

-- the roles of all ports, in the order of their numbers
unfoldable pub port_roles : List Sensor → List Actuator → List Task → List ℕ
port_roles sensors actuators tasks = map (λ s. sensor_role) sensors ++ (map (λ a. actuator_role) actuators ++ each task_roles tasks)

-- a port that can be read: a sensor or an output
abbrev pub is_source : List ℕ → ℕ → Bool
is_source roles p = eqb (get_or roles p 0) sensor_role || eqb (get_or roles p 0) output_role

-- whether a port is an actuator's
abbrev pub is_actuator : List ℕ → ℕ → Bool
is_actuator roles p = eqb (get_or roles p 0) actuator_role

-- ---- drivers

-- as many sources as inputs, each of its input's type
unfoldable pub takes : List ℕ → List ℕ → List ℕ → List ℕ → Bool
takes roles types [] [] = true
takes roles types [] (p ∷ sources) = false
takes roles types (wanted ∷ inputs) [] = false
takes roles types (wanted ∷ inputs) (p ∷ sources) = (is_source roles p && eqb (get_or types p 0) wanted) && takes roles types inputs sources

-- whether a driver's ports and task are there, of the right role and type
unfoldable pub good_driver : List ℕ → List ℕ → List Task → Driver → Bool
good_driver roles types tasks (updates source target) = (is_source roles source && is_actuator roles target) && eqb (get_or types source 0) (get_or types target 0)
good_driver roles types tasks (releases t sources) = ltb t (length tasks) && takes roles types (get_or tasks t no_task).inputs sources
good_driver roles types tasks (terminates t) = ltb t (length tasks)

-- ---- guards: is_true(boolean), is_false(boolean), less(int, int), equal(two of one type)

-- whether an argument's port can be read
abbrev pub good_argument : List ℕ → Argument → Bool
good_argument roles (port p) = is_source roles p
good_argument roles (fixed type word) = true

-- the type of an argument
abbrev pub argument_type : List ℕ → Argument → ℕ
argument_type types (port p) = get_or types p 0
argument_type types (fixed type word) = type

-- whether a function, by its number, takes arguments of these types
unfoldable pub function_takes : ℕ → List ℕ → Bool
function_takes f [] = false
function_takes f (t ∷ []) = ltb f 2 && eqb t boolean
function_takes f (t ∷ u ∷ []) = (eqb f 2 && (eqb t int && eqb u int)) || (eqb f 3 && eqb t u)
function_takes f (t ∷ u ∷ v ∷ types) = false

-- whether a guard's arguments are right in number, role and type
unfoldable pub good_guard : List ℕ → List ℕ → GuardRow → Bool
good_guard roles types g =
    all_in (good_argument roles) g.arguments
    && function_takes (place_in function_names 0 g.function) (map (argument_type types) g.arguments)

-- ---- modes and code: a pc names an instruction

-- whether what an instruction refers to is there
unfoldable pub good_instruction : Table → Instr → Bool
good_instruction t (nop marker) = true
good_instruction t (future pc delay) = ltb pc (length t.code)
good_instruction t (call driver) = ltb driver (length t.drivers)
good_instruction t (release task) = ltb task (length t.tasks)
good_instruction t (iff guard pc) = ltb guard (length t.guards) && ltb pc (length t.code)
good_instruction t (jump pc) = ltb pc (length t.code)
good_instruction t return = true
good_instruction t (switch mode) = ltb mode (length t.modes)

-- how many modes are marked as start mode
abbrev pub start_modes : List ModeRow → ℕ
start_modes [] = 0
start_modes (m ∷ modes) = m.start + start_modes modes

-- no reference out of range or of another kind, no unknown guard or wrong argument count, types that agree, exactly one start mode
unfoldable pub good_references : Table → Bool
good_references t =
    let roles = port_roles t.sensors t.actuators t.tasks in
    let types = port_types t.sensors t.actuators t.tasks in
    all_in (good_driver roles types t.tasks) t.drivers && all_in (good_guard roles types) t.guards
    && (all_in (λ m. ltb m.begin (length t.code)) t.modes && eqb (start_modes t.modes) 1 && all_in (good_instruction t) t.code)
