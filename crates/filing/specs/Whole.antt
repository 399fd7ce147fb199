-- The bytes of a whole file, by the arrays of a table, whatever these hold.
use Rattle.std.specs.Prelude.{ℕ, ◌-◌, ◌%◌, ◌≡◌, refl, List, [], ◌++◌, length, take}
use Rattle.std.proofs.Common.{ap, ◌∙◌}
use Rattle.tables.specs.declared.Table.{Table as Plain}
use Rattle.layout.specs.Filling.{stored}
use Rattle.writing.specs.Puts.{behind}
use Rattle.writing.specs.Cells.{byte_of, quad_of, name_in, sensors_in, actuators_in, TaskArrays, tasks_in, drivers_in, guards_in, modes_in, code_in}
use Rattle.writing.specs.declared.Counts.{Counts}
use Rattle.writing.specs.declared.Arrays.{Arrays}

-- the arrays of a table that hold its tasks
abbrev pub task_arrays : Plain → TaskArrays
task_arrays t =
    record { names = t.task_names; output_names = t.output_names; types = t.types; starts = t.starts; rows = t.task_rows }

-- One byte: version. Then module name; sensors; actuators.
abbrev pub ports_in : (name sensor_names actuator_names types starts : List ℕ) (sensors actuators : ℕ) → List ℕ
ports_in name sensor_names actuator_names types starts sensors actuators =
    (byte_of 1 ++ name_in name 0) ++ (sensors_in sensor_names types sensors ++ actuators_in actuator_names types starts sensors actuators)

unfoldable pub ports_of : Plain → List ℕ
ports_of t = ports_in t.name t.sensor_names t.actuator_names t.types t.starts t.sensors t.actuators

-- drivers; guards; modes; code
abbrev pub rest_in : (driver_rows guard_rows mode_names mode_rows code : List ℕ) (drivers guards modes instructions : ℕ) → List ℕ
rest_in driver_rows guard_rows mode_names mode_rows code drivers guards modes instructions =
    drivers_in driver_rows drivers ++ (guards_in guard_rows guards ++ (modes_in mode_names mode_rows modes ++ code_in code instructions))

unfoldable pub rest_of : Plain → List ℕ
rest_of t = rest_in t.driver_rows t.guard_rows t.mode_names t.mode_rows t.code t.drivers t.guards t.modes t.instructions

-- all that stands behind the length
unfoldable pub body_of : Plain → List ℕ
body_of t = ports_of t ++ (tasks_in (task_arrays t) t.tasks ++ rest_of t)

-- Four bytes: length of the rest. Then the rest.
unfoldable pub framed : List ℕ → List ℕ
framed rest = quad_of (length rest) ++ rest

-- the file of a table, as far as a buffer of this length goes
unfoldable pub file_of : ℕ → Plain → List ℕ
file_of room t = framed (take (room - 4) (body_of t))

-- what a buffer holds when the body is put behind the first four bytes and its length into them, and the place behind
pub record Filed (before : List ℕ) (t : Plain) (after : List ℕ) (next : ℕ) : Type 0 where
  pub is : after ≡ stored (stored before 4 (body_of t)) 0 (quad_of ((next - 4) % 4294967296))
  pub goes : next ≡ behind (length before) 4 (length (body_of t))

-- ---- arrays that stand in no table

-- the table of these counts and arrays, without the ports' roles, which no file holds
abbrev pub table_by : Counts → (name sensor_names actuator_names task_names output_names mode_names types starts task_rows driver_rows guard_rows mode_rows code : List ℕ) → Plain
table_by counts name sensor_names actuator_names task_names output_names mode_names types starts task_rows driver_rows guard_rows mode_rows code =
    record {
      sensors = counts.sensors;
      actuators = counts.actuators;
      tasks = counts.tasks;
      drivers = counts.drivers;
      guards = counts.guards;
      modes = counts.modes;
      instructions = counts.instructions;
      name = name;
      sensor_names = sensor_names;
      actuator_names = actuator_names;
      task_names = task_names;
      output_names = output_names;
      mode_names = mode_names;
      roles = [];
      types = types;
      starts = starts;
      task_rows = task_rows;
      driver_rows = driver_rows;
      guard_rows = guard_rows;
      mode_rows = mode_rows;
      code = code;
    }

-- the table that stands in these arrays
abbrev pub table_of : Arrays → Plain
table_of t =
    table_by t.counts t.name.now t.sensor_names.now t.actuator_names.now t.task_names.now t.output_names.now t.mode_names.now t.types.now t.starts.now
    t.task_rows.now t.driver_rows.now t.guard_rows.now t.mode_rows.now t.code.now

-- how many rows of each array of a table are used
abbrev pub counts_of : Plain → Counts
counts_of t =
    record { sensors = t.sensors; actuators = t.actuators; tasks = t.tasks; drivers = t.drivers; guards = t.guards; modes = t.modes; instructions = t.instructions }

-- a table without its roles
abbrev pub roles_aside : Plain → Plain
roles_aside t =
    table_by (counts_of t) t.name t.sensor_names t.actuator_names t.task_names t.output_names t.mode_names t.types t.starts t.task_rows
    t.driver_rows t.guard_rows t.mode_rows t.code

pub body-aside : (t : Plain) → body_of (roles_aside t) ≡ body_of t
unfolding body_of ports_of rest_of
body-aside t = refl

-- what is filed without roles is the file of the table
pub filed-aside : {before after : List ℕ} {next : ℕ} (t : Plain) → Filed before (roles_aside t) after next → Filed before t after next
filed-aside {before} {after} {next} t f =
    record {
      is = f.is ∙ ap (λ (b : List ℕ). stored (stored before 4 b) 0 (quad_of ((next - 4) % 4294967296))) (body-aside t);
      goes = f.goes ∙ ap (λ (b : List ℕ). behind (length before) 4 (length b)) (body-aside t);
    }

pub file-aside : (room : ℕ) (t : Plain) → file_of room (roles_aside t) ≡ file_of room t
unfolding file_of
file-aside room t = ap (λ (b : List ℕ). framed (take (room - 4) b)) (body-aside t)
