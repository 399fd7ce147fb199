-- Where the code puts the numbers and names of a sensor, an actuator and a task, by its number among those of its kind.
use Rattle.std.specs.Prelude.{ℕ, ◌+◌, ◌*◌, min, List, length, set}
use Rattle.model.specs.Modules.{Sensor, Actuator, Output, Task}
use Rattle.file.specs.Records.{Used}
use Rattle.file.specs.References.{task_roles}
use Rattle.layout.specs.Rows.{name_cells}
use Rattle.layout.specs.Plain.{task_cells}
use Rattle.layout.specs.Filling.{stored, fill}

-- names and types
unfoldable pub store_sensor : ℕ → Sensor → List ℕ × List ℕ → List ℕ × List ℕ
store_sensor k x l = (stored (stored l.0 (k * 66) (name_cells x.name)) (k * 66 + 33) (name_cells x.getter), set l.1 k x.type)

-- names, types and beginning values, the first port at `from`
pub record Ported : Type 0 where
  pub names : List ℕ
  pub types : List ℕ
  pub starts : List ℕ

unfoldable pub store_actuator : ℕ → ℕ → Actuator → Ported → Ported
store_actuator from k x l =
    record {
      names = stored (stored l.names (k * 66) (name_cells x.name)) (k * 66 + 33) (name_cells x.setter);
      types = set l.types (from + k) x.type;
      starts = set l.starts (from + k) x.start;
    }

-- ---- tasks

unfoldable pub store_input : ℕ → ℕ → ℕ → List ℕ → List ℕ
store_input port k type l = set l (port + k) type

-- the first output in a row of names and at a port
unfoldable pub store_output : ℕ → ℕ → ℕ → Output → Ported → Ported
store_output row port k o l =
    record {
      names = stored l.names ((row + k) * 33) (name_cells o.name);
      types = set l.types (port + k) o.type;
      starts = set l.starts (port + k) o.start;
    }

-- what reading a task fills, with the numbers of its inputs and outputs
pub record TaskParts : Type 0 where
  pub names : List ℕ
  pub inputs : ℕ
  pub outputs : ℕ
  pub ports : Ported  -- names of outputs, types and beginning values of ports

abbrev pub with_types : Ported → List ℕ → Ported
with_types p types = record { names = p.names; types = types; starts = p.starts }

-- task k, whose first port is `port` and whose first output has the row `row`
unfoldable pub store_parts : ℕ → ℕ → ℕ → Task → TaskParts → TaskParts
store_parts k port row t l =
    record {
      names = stored (stored l.names (k * 66) (name_cells t.name)) (k * 66 + 33) (name_cells t.function);
      inputs = length t.inputs;
      outputs = length t.outputs;
      ports = fill (store_output row (port + length t.inputs)) 0 t.outputs (with_types l.ports (fill (store_input port) 0 t.inputs l.ports.types));
    }

-- all that tasks fill, with the numbers of inputs and outputs so far
pub record TaskState : Type 0 where
  pub names : List ℕ
  pub ports : Ported
  pub roles : List ℕ
  pub rows : List ℕ
  pub inputs : ℕ
  pub outputs : ℕ

abbrev pub used_of : TaskState → Used
used_of l = record { inputs = l.inputs; outputs = l.outputs }

-- the tasks' first port: at most 64 sensors and actuators stand before it
unfoldable pub first_port : ℕ → ℕ
first_port from = min from 64

-- where the tasks' ports begin at `from`
unfoldable pub store_task : ℕ → ℕ → Task → TaskState → TaskState
store_task from k t l =
    let port = from + l.inputs + l.outputs in
    record {
      names = stored (stored l.names (k * 66) (name_cells t.name)) (k * 66 + 33) (name_cells t.function);
      ports = fill (store_output l.outputs (port + length t.inputs)) 0 t.outputs (with_types l.ports (fill (store_input port) 0 t.inputs l.ports.types));
      roles = stored l.roles port (task_roles t);
      rows = stored l.rows (k * 4) (task_cells port t);
      inputs = l.inputs + length t.inputs;
      outputs = l.outputs + length t.outputs;
    }
