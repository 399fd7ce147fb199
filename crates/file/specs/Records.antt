-- Sensors, actuators and tasks (document 01, 'The file').
use Rattle.std.specs.Prelude.{◌&&◌, List, ℕ, ◌+◌, leb, length}
use Rattle.codec.specs.Codecs.{Codec}
use Rattle.codec.specs.Numbers.{be}
use Rattle.codec.specs.Sequences.{dep}
use Rattle.codec.specs.Views.{check, shape}
use Rattle.codec.specs.Lists.{list, running}
use Rattle.model.specs.Rooms.{sensor_room, actuator_room, task_room, port_room, all_port_room}
use Rattle.model.specs.Modules.{Sensor, Actuator, Output, Task}
use Rattle.file.specs.Parts.{count, type, value}
use Rattle.file.specs.Names.{name}

-- sensors (name, type, getter)
unfoldable pub sensor : Codec Sensor
sensor =
    shape (dep name (λ n. ℕ × List ℕ) (λ n. dep type (λ t. List ℕ) (λ t. name)))
    (λ s. (s.name, (s.type, s.getter))) (λ x. record { name = x.0; type = x.1.0; getter = x.1.1 })

-- the sensors, with their count before them
unfoldable pub sensors : Codec (List Sensor)
sensors = list (count 2 sensor_room) sensor

-- actuators (name, type, value, setter)
unfoldable pub actuator : Codec Actuator
actuator =
    shape (dep name (λ n. ℕ × (ℕ × List ℕ)) (λ n. dep type (λ t. ℕ × List ℕ) (λ t. dep (value t) (λ v. List ℕ) (λ v. name))))
    (λ a. (a.name, (a.type, (a.start, a.setter))))
    (λ x. record { name = x.0; type = x.1.0; start = x.1.1.0; setter = x.1.1.1 })

-- the actuators, with their count before them
unfoldable pub actuators : Codec (List Actuator)
actuators = list (count 2 actuator_room) actuator

-- ---- tasks

-- outputs as name, type, value
unfoldable pub output : Codec Output
output =
    shape (dep name (λ n. ℕ × ℕ) (λ n. dep type (λ t. ℕ) value))
    (λ o. (o.name, (o.type, o.start))) (λ x. record { name = x.0; type = x.1.0; start = x.1.1 })

-- inputs, or outputs, of the tasks before, and of this one too
pub record Used : Type 0 where
  pub inputs : ℕ
  pub outputs : ℕ

-- before the first task no port is used
abbrev pub none_used : Used
none_used = record { inputs = 0; outputs = 0 }

abbrev pub used_with : Used → Task → Used
used_with used t = record { inputs = used.inputs + length t.inputs; outputs = used.outputs + length t.outputs }

-- a task's count of inputs, or of outputs: per task 8, in all 128; 22 at the count that passes either
unfoldable pub port_count : ℕ → Codec ℕ
port_count used = check (be 1) 22 (λ n. leb n port_room && leb (used + n) all_port_room)

-- tasks (name, function, inputs as count and types, outputs as count and name, type, value)
unfoldable pub task : Used → Codec Task
task used =
    shape
    (dep name (λ n. List ℕ × (List ℕ × List Output))
    (λ n. dep name (λ f. List ℕ × List Output)
    (λ f. dep (list (port_count used.inputs) type) (λ i. List Output)
    (λ i. list (port_count used.outputs) output))))
    (λ t. (t.name, (t.function, (t.inputs, t.outputs))))
    (λ x. record { name = x.0; function = x.1.0; inputs = x.1.1.0; outputs = x.1.1.1 })

-- the tasks, with their count before them; ports are added up from task to task
unfoldable pub tasks : Codec (List Task)
tasks = running task used_with (count 2 task_room) none_used
