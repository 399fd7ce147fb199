-- What the parts of a file are put into: the arrays of a table, in three stages.
use Rattle.std.specs.Prelude.{ℕ, ◌+◌, List, replicate}
use Rattle.model.specs.Modules.{Sensor, Actuator, Task}
use Rattle.model.specs.Instructions.{Instr, Driver}
use Rattle.file.specs.Tables.{GuardRow, ModeRow}
use Rattle.layout.specs.Rows.{name_cells}
use Rattle.layout.specs.Filling.{stored}
use Rattle.fields.specs.Taking.{counted}
use Rattle.declarations.specs.Stores.{Ported, store_sensor, store_actuator, TaskState, first_port, store_task}
use Rattle.records.specs.Stores.{store_driver, store_guard, store_mode, store_instruction}
use Rattle.tables.specs.declared.Table.{Table as Plain}

-- ---- the module's name, sensors and actuators

-- what the module's name, its sensors and its actuators fill
pub record PortState : Type 0 where
  pub name : List ℕ
  pub sensors : ℕ
  pub actuators : ℕ
  pub sensor_names : List ℕ
  pub actuator_names : List ℕ
  pub roles : List ℕ
  pub types : List ℕ
  pub starts : List ℕ

-- these, by their parts
abbrev pub port_state : List ℕ → ℕ → ℕ → List ℕ → List ℕ → List ℕ → List ℕ → List ℕ → PortState
port_state name sensors actuators sensor_names actuator_names roles types starts =
    record { name = name; sensors = sensors; actuators = actuators; sensor_names = sensor_names; actuator_names = actuator_names; roles = roles; types = types; starts = starts }

-- with the cells of the module's name
abbrev pub put_name : List ℕ → PortState → PortState
put_name cells l = port_state cells l.sensors l.actuators l.sensor_names l.actuator_names l.roles l.types l.starts

-- the module's name
unfoldable pub store_name : List ℕ → PortState → PortState
store_name word l = put_name (stored l.name 0 (name_cells word)) l

-- with the number of sensors, their names and types; the first ports are theirs
abbrev pub put_sensors : ℕ × (List ℕ × List ℕ) → PortState → PortState
put_sensors z l = port_state l.name z.0 l.actuators z.1.0 l.actuator_names (stored l.roles 0 (replicate z.0 1)) z.1.1 l.starts

-- the sensors
unfoldable pub store_sensors : List Sensor → PortState → PortState
store_sensors xs l = put_sensors (counted store_sensor xs (0, (l.sensor_names, l.types))) l

-- with the number of actuators, their names, types and beginning values; the next ports are theirs
abbrev pub put_actuators : ℕ × Ported → PortState → PortState
put_actuators z l =
    port_state l.name l.sensors z.0 l.sensor_names z.1.names (stored l.roles l.sensors (replicate z.0 2)) z.1.types z.1.starts

-- the actuators
unfoldable pub store_actuators : List Actuator → PortState → PortState
store_actuators xs l = put_actuators (counted (store_actuator l.sensors) xs (0, record { names = l.actuator_names; types = l.types; starts = l.starts })) l

-- the arrays of a table that they fill
abbrev pub ports_of : Plain → PortState
ports_of l = port_state l.name l.sensors l.actuators l.sensor_names l.actuator_names l.roles l.types l.starts

-- a table with these arrays
abbrev pub with_ports : PortState → Plain → Plain
with_ports z l =
    record {
      sensors = z.sensors;
      actuators = z.actuators;
      tasks = l.tasks;
      drivers = l.drivers;
      guards = l.guards;
      modes = l.modes;
      instructions = l.instructions;
      name = z.name;
      sensor_names = z.sensor_names;
      actuator_names = z.actuator_names;
      task_names = l.task_names;
      output_names = l.output_names;
      mode_names = l.mode_names;
      roles = z.roles;
      types = z.types;
      starts = z.starts;
      task_rows = l.task_rows;
      driver_rows = l.driver_rows;
      guard_rows = l.guard_rows;
      mode_rows = l.mode_rows;
      code = l.code;
    }

-- a table with the module's name, sensors and actuators
unfoldable pub store_ports : List ℕ × (List Sensor × List Actuator) → Plain → Plain
store_ports x l = with_ports (store_actuators x.1.1 (store_sensors x.1.0 (store_name x.0 (ports_of l)))) l

-- ---- the tasks

-- the arrays of a table that tasks fill, before the first task
abbrev pub tasks_of : Plain → TaskState
tasks_of l =
    record {
      names = l.task_names;
      ports = record { names = l.output_names; types = l.types; starts = l.starts };
      roles = l.roles;
      rows = l.task_rows;
      inputs = 0;
      outputs = 0;
    }

-- a table with these arrays, and the number of tasks
abbrev pub with_tasks : ℕ × TaskState → Plain → Plain
with_tasks z l =
    record {
      sensors = l.sensors;
      actuators = l.actuators;
      tasks = z.0;
      drivers = l.drivers;
      guards = l.guards;
      modes = l.modes;
      instructions = l.instructions;
      name = l.name;
      sensor_names = l.sensor_names;
      actuator_names = l.actuator_names;
      task_names = z.1.names;
      output_names = z.1.ports.names;
      mode_names = l.mode_names;
      roles = z.1.roles;
      types = z.1.ports.types;
      starts = z.1.ports.starts;
      task_rows = z.1.rows;
      driver_rows = l.driver_rows;
      guard_rows = l.guard_rows;
      mode_rows = l.mode_rows;
      code = l.code;
    }

-- a table with the tasks, whose ports stand behind those of sensors and actuators
unfoldable pub store_tasks : List Task → Plain → Plain
store_tasks xs l = with_tasks (counted (store_task (first_port (l.sensors + l.actuators))) xs (0, tasks_of l)) l

-- ---- drivers, guards, modes and code

-- what drivers, guards, modes and code fill, and their numbers
pub record RestState : Type 0 where
  pub drivers : ℕ
  pub guards : ℕ
  pub modes : ℕ
  pub instructions : ℕ
  pub driver_rows : List ℕ
  pub guard_rows : List ℕ
  pub mode_names : List ℕ
  pub mode_rows : List ℕ
  pub code : List ℕ

-- these, by their parts
abbrev pub rest_state : ℕ → ℕ → ℕ → ℕ → List ℕ → List ℕ → List ℕ → List ℕ → List ℕ → RestState
rest_state drivers guards modes instructions driver_rows guard_rows mode_names mode_rows code =
    record {
      drivers = drivers;
      guards = guards;
      modes = modes;
      instructions = instructions;
      driver_rows = driver_rows;
      guard_rows = guard_rows;
      mode_names = mode_names;
      mode_rows = mode_rows;
      code = code;
    }

-- with the number of drivers and their rows
abbrev pub put_drivers : ℕ × List ℕ → RestState → RestState
put_drivers z l = rest_state z.0 l.guards l.modes l.instructions z.1 l.guard_rows l.mode_names l.mode_rows l.code

-- with the number of guards and their rows
abbrev pub put_guards : ℕ × List ℕ → RestState → RestState
put_guards z l = rest_state l.drivers z.0 l.modes l.instructions l.driver_rows z.1 l.mode_names l.mode_rows l.code

-- with the number of modes, their names and their rows
abbrev pub put_modes : ℕ × (List ℕ × List ℕ) → RestState → RestState
put_modes z l = rest_state l.drivers l.guards z.0 l.instructions l.driver_rows l.guard_rows z.1.0 z.1.1 l.code

-- with the number of instructions and their rows
abbrev pub put_code : ℕ × List ℕ → RestState → RestState
put_code z l = rest_state l.drivers l.guards l.modes z.0 l.driver_rows l.guard_rows l.mode_names l.mode_rows z.1

-- the drivers
unfoldable pub store_drivers : List Driver → RestState → RestState
store_drivers xs l = put_drivers (counted store_driver xs (0, l.driver_rows)) l

-- the guards
unfoldable pub store_guards : List GuardRow → RestState → RestState
store_guards xs l = put_guards (counted store_guard xs (0, l.guard_rows)) l

-- the modes
unfoldable pub store_modes : List ModeRow → RestState → RestState
store_modes xs l = put_modes (counted store_mode xs (0, (l.mode_names, l.mode_rows))) l

-- the code
unfoldable pub store_code : List Instr → RestState → RestState
store_code xs l = put_code (counted store_instruction xs (0, l.code)) l

-- the arrays of a table that they fill
abbrev pub rest_of : Plain → RestState
rest_of l =
    rest_state l.drivers l.guards l.modes l.instructions l.driver_rows l.guard_rows l.mode_names l.mode_rows l.code

-- a table with these arrays
abbrev pub with_rest : RestState → Plain → Plain
with_rest z l =
    record {
      sensors = l.sensors;
      actuators = l.actuators;
      tasks = l.tasks;
      drivers = z.drivers;
      guards = z.guards;
      modes = z.modes;
      instructions = z.instructions;
      name = l.name;
      sensor_names = l.sensor_names;
      actuator_names = l.actuator_names;
      task_names = l.task_names;
      output_names = l.output_names;
      mode_names = z.mode_names;
      roles = l.roles;
      types = l.types;
      starts = l.starts;
      task_rows = l.task_rows;
      driver_rows = z.driver_rows;
      guard_rows = z.guard_rows;
      mode_rows = z.mode_rows;
      code = z.code;
    }

-- a table with the drivers, guards, modes and code
unfoldable pub store_rest : List Driver × (List GuardRow × (List ModeRow × List Instr)) → Plain → Plain
store_rest x l = with_rest (store_code x.1.1.1 (store_modes x.1.1.0 (store_guards x.1.0 (store_drivers x.0 (rest_of l))))) l
