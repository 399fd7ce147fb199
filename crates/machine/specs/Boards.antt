-- What the machine reads of a table: its board. Every list has its room's full length, so that a number past the end names something that does nothing.
use Rattle.std.specs.Prelude.{ℕ, suc, ◌+◌, ◌-◌, ◌*◌, cond, List, [], ◌∷◌, ◌++◌, map, length, get_or, replicate, eqb}
use Rattle.model.specs.Bytes.{place_in}
use Rattle.model.specs.Rooms.{sensor_room, actuator_room, task_room, mode_room, port_room, all_port_room, driver_room, guard_room}
use Rattle.model.specs.Values.{value_of, function_names, function_by, no_operand, no_guard}
use Rattle.model.specs.Modules.{Task, port_types, port_starts, task_ports}
use Rattle.model.specs.Instructions.{Instr, Driver, no_driver}
use Rattle.model.specs.declared.Operand.{Operand}
use Rattle.model.specs.declared.Operand.TheVariants.{Port, Fixed}
use Rattle.model.specs.declared.Guard.{Guard}
use Rattle.file.specs.Tables.{Argument, port, fixed, GuardRow, ModeRow, Table}

-- the room of all ports: sensors, actuators, inputs and outputs
abbrev pub board_room : ℕ
board_room = sensor_room + actuator_room + all_port_room + all_port_room

-- the room of results aside: 8 for each of 32 tasks
abbrev pub aside_room : ℕ
aside_room = task_room * port_room

-- a list filled up to its room
abbrev pub padded : {A : Type 0} → ℕ → A → List A → List A
padded room blank list = list ++ replicate (room - length list) blank

-- where a task's inputs and its outputs begin among the ports, and how many outputs it has
pub record Lot : Type 0 where
  pub inputs : ℕ
  pub outputs : ℕ
  pub results : ℕ

-- a task with no ports
abbrev pub no_lot : Lot
no_lot = record { inputs = 0; outputs = 0; results = 0 }

-- what the machine reads of a table
pub record Board : Type 0 where
  pub code : List Instr
  pub drivers : List Driver
  pub guards : List Guard
  pub begins : List ℕ
  pub types : List ℕ
  pub starts : List ℕ
  pub lots : List Lot
  pub sensors : ℕ
  pub start : ℕ

-- ---- the board of a table

-- a guard's argument as an operand
abbrev pub operand_of : Argument → Operand
operand_of (port number) = Port number
operand_of (fixed type word) = Fixed (value_of type word)

-- a guard's row as a guard
abbrev pub guard_of : GuardRow → Guard
guard_of row =
    let arguments = map operand_of row.arguments in
    record { function = function_by (place_in function_names 0 row.function); first = get_or arguments 0 no_operand; second = get_or arguments 1 no_operand }

-- the lots of tasks whose first port is `at`
abbrev pub lots_from : ℕ → List Task → List Lot
lots_from at [] = []
lots_from at (task ∷ tasks) =
    record { inputs = at; outputs = at + length task.inputs; results = length task.outputs } ∷ lots_from (at + task_ports task) tasks

-- the number of the first mode that is marked as start, counted from n
abbrev pub start_from : ℕ → List ModeRow → ℕ
start_from n [] = n
start_from n (m ∷ ms) = cond (eqb m.start 1) n (start_from (suc n) ms)

-- the board of a table
unfoldable pub board_of : Table → Board
board_of t =
    record {
      code = t.code;
      drivers = padded driver_room no_driver t.drivers;
      guards = padded guard_room no_guard (map guard_of t.guards);
      begins = padded mode_room 0 (map (λ m. m.begin) t.modes);
      types = padded board_room 0 (port_types t.sensors t.actuators t.tasks);
      starts = padded board_room 0 (port_starts t.sensors t.actuators t.tasks);
      lots = padded task_room no_lot (lots_from (length t.sensors + length t.actuators) t.tasks);
      sensors = length t.sensors;
      start = start_from 0 t.modes;
    }
