-- The record of plain arrays (crate tables) for a table of the file: where each of its numbers and bytes stands.
use Rattle.std.specs.Prelude.{ℕ, ◌+◌, ◌*◌, List, [], ◌∷◌, map, length}
use Rattle.model.specs.Bytes.{place_in}
use Rattle.model.specs.Rooms.{sensor_room, actuator_room, task_room, mode_room, all_port_room, driver_room, guard_room, code_room}
use Rattle.model.specs.Values.{function_names}
use Rattle.model.specs.Modules.{Sensor, Actuator, Task, each, port_types, port_starts, task_ports}
use Rattle.model.specs.Instructions.{Instr, Driver, updates, releases, terminates}
use Rattle.file.specs.Tables.{Argument, port, fixed, GuardRow, ModeRow, Table}
use Rattle.file.specs.Code.{triple_of}
use Rattle.file.specs.References.{port_roles}
use Rattle.tables.specs.declared.Table.{Table as Plain}
use Rattle.layout.specs.Rows.{zeros, padded, rows, name_cells, names}

-- ---- the cells of a record

-- two names to a sensor, an actuator and a task
abbrev pub sensor_names : Sensor → List (List ℕ)
sensor_names s = s.name ∷ s.getter ∷ []

abbrev pub actuator_names : Actuator → List (List ℕ)
actuator_names a = a.name ∷ a.setter ∷ []

abbrev pub task_names : Task → List (List ℕ)
task_names t = t.name ∷ t.function ∷ []

abbrev pub output_names : Task → List (List ℕ)
output_names t = map (λ o. o.name) t.outputs

-- first input port, number of inputs, first output port, number of outputs, of a task whose first port is `at`
abbrev pub task_cells : ℕ → Task → List ℕ
task_cells at t = at ∷ length t.inputs ∷ (at + length t.inputs) ∷ length t.outputs ∷ []

-- the rows of tasks whose first port is `at`
unfoldable pub task_rows : ℕ → List Task → List (List ℕ)
task_rows at [] = []
task_rows at (t ∷ tasks) = task_cells at t ∷ task_rows (at + task_ports t) tasks

-- tag, target port or task, number of sources, source ports
abbrev pub driver_cells : Driver → List ℕ
driver_cells (updates source target) = 3 ∷ target ∷ 1 ∷ source ∷ []
driver_cells (releases task sources) = 4 ∷ task ∷ length sources ∷ sources
driver_cells (terminates task) = 5 ∷ task ∷ []

-- an operand's place (0 port, 1 int, 2 boolean) and its word
abbrev pub argument_cells : Argument → List ℕ
argument_cells (port number) = 0 ∷ number ∷ []
argument_cells (fixed type word) = (type + 1) ∷ word ∷ []

-- function by its number, number of operands, operands
abbrev pub guard_cells : GuardRow → List ℕ
guard_cells g = place_in function_names 0 g.function ∷ length g.arguments ∷ each argument_cells g.arguments

-- start, period, begin pc
abbrev pub mode_cells : ModeRow → List ℕ
mode_cells m = m.start ∷ m.period ∷ m.begin ∷ []

-- opcode and two arguments
abbrev pub instruction_cells : Instr → List ℕ
instruction_cells i = (triple_of i).0 ∷ (triple_of i).1.0 ∷ (triple_of i).1.1 ∷ []

-- ---- the whole

-- room for sensors, actuators, inputs and outputs
abbrev pub board_room : ℕ
board_room = sensor_room + actuator_room + all_port_room + all_port_room

unfoldable pub struct_of : Table → Plain
struct_of t =
    record {
      sensors = length t.sensors;
      actuators = length t.actuators;
      tasks = length t.tasks;
      drivers = length t.drivers;
      guards = length t.guards;
      modes = length t.modes;
      instructions = length t.code;
      name = padded 33 (name_cells t.name);
      sensor_names = names (2 * sensor_room) (each sensor_names t.sensors);
      actuator_names = names (2 * actuator_room) (each actuator_names t.actuators);
      task_names = names (2 * task_room) (each task_names t.tasks);
      output_names = names all_port_room (each output_names t.tasks);
      mode_names = names mode_room (map (λ m. m.name) t.modes);
      roles = padded board_room (port_roles t.sensors t.actuators t.tasks);
      types = padded board_room (port_types t.sensors t.actuators t.tasks);
      starts = padded board_room (port_starts t.sensors t.actuators t.tasks);
      task_rows = rows 4 (4 * task_room) (λ cells. cells) (task_rows (length t.sensors + length t.actuators) t.tasks);
      driver_rows = rows 12 (12 * driver_room) driver_cells t.drivers;
      guard_rows = rows 6 (6 * guard_room) guard_cells t.guards;
      mode_rows = rows 3 (3 * mode_room) mode_cells t.modes;
      code = rows 3 (3 * code_room) instruction_cells t.code;
    }

-- the table beside a refusal
unfoldable pub blank : Plain
blank =
    record {
      sensors = 0;
      actuators = 0;
      tasks = 0;
      drivers = 0;
      guards = 0;
      modes = 0;
      instructions = 0;
      name = zeros 33;
      sensor_names = zeros 2112;
      actuator_names = zeros 2112;
      task_names = zeros 2112;
      output_names = zeros 4224;
      mode_names = zeros 264;
      roles = zeros 320;
      types = zeros 320;
      starts = zeros 320;
      task_rows = zeros 128;
      driver_rows = zeros 3456;
      guard_rows = zeros 1536;
      mode_rows = zeros 24;
      code = zeros 12288;
    }
