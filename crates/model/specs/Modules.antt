-- What an accepted text means (document 01, 'The text of a module' and 'The code', ports). Constants are gone, names stand only where the file has them.
use Rattle.std.specs.Prelude.{ℕ, zero, suc, ◌+◌, Bool, List, [], ◌∷◌, ◌++◌, map, length, get_or, set}
use Rattle.std.proofs.Math.Option.{Option}
use Rattle.model.specs.declared.Guard.{Guard}

-- a sensor: its name, its type, its getter
pub record Sensor : Type 0 where
  pub name : List ℕ
  pub type : ℕ
  pub getter : List ℕ

-- an actuator: its name, its type, its first value, its setter
pub record Actuator : Type 0 where
  pub name : List ℕ
  pub type : ℕ
  pub start : ℕ
  pub setter : List ℕ

-- an output port: its name, its type, its first value
pub record Output : Type 0 where
  pub name : List ℕ
  pub type : ℕ
  pub start : ℕ

-- A task: its inputs are known by their types alone.
pub record Task : Type 0 where
  pub name : List ℕ
  pub function : List ℕ
  pub inputs : List ℕ
  pub outputs : List Output

-- An activity of a mode: its frequency, its guard by number, and what is done.
pub record Act (A : Type 0) : Type 0 where
  pub frequency : ℕ
  pub guard : Option ℕ
  pub what : A

-- A task invoked on source ports.
pub record Call : Type 0 where
  pub task : ℕ
  pub sources : List ℕ

-- An actuator's port updated from a source port.
pub record Update : Type 0 where
  pub source : ℕ
  pub target : ℕ

-- A mode: its period in microseconds, and its activities of each kind in text order. A switch names its target mode.
pub record Mode : Type 0 where
  pub name : List ℕ
  pub start : Bool
  pub period : ℕ
  pub calls : List (Act Call)
  pub updates : List (Act Update)
  pub switches : List (Act ℕ)

-- A module. Guards: one for each guarded activity, in text order.
pub record Module : Type 0 where
  pub name : List ℕ
  pub sensors : List Sensor
  pub actuators : List Actuator
  pub tasks : List Task
  pub guards : List Guard
  pub modes : List Mode

-- what stands where no task is
abbrev pub no_task : Task
no_task = record { name = []; function = []; inputs = []; outputs = [] }

-- ---- ports: sensors, actuators, then task by task inputs and outputs

-- what every entry gives, one behind the other
abbrev pub each : {A B : Type 0} → (A → List B) → List A → List B
each f [] = []
each f (x ∷ xs) = f x ++ each f xs

-- the type of every port, by number
abbrev pub task_types : Task → List ℕ
task_types task = task.inputs ++ map (λ o. o.type) task.outputs

-- the types of all ports, in the order of their numbers
unfoldable pub port_types : List Sensor → List Actuator → List Task → List ℕ
port_types sensors actuators tasks = map (λ s. s.type) sensors ++ (map (λ a. a.type) actuators ++ each task_types tasks)

-- what every port holds at the beginning: sensors and inputs begin as 0 or false ('The machine')
abbrev pub task_starts : Task → List ℕ
task_starts task = map (λ i. 0) task.inputs ++ map (λ o. o.start) task.outputs

-- the first words of all ports: sensors and inputs 0, actuators and outputs as declared
unfoldable pub port_starts : List Sensor → List Actuator → List Task → List ℕ
port_starts sensors actuators tasks = map (λ s. 0) sensors ++ (map (λ a. a.start) actuators ++ each task_starts tasks)

-- the number of ports of some tasks
abbrev pub task_ports : Task → ℕ
task_ports task = length task.inputs + length task.outputs

-- where the inputs of task k stand, among tasks whose first port is `at`; and its outputs
abbrev pub inputs_at : ℕ → List Task → ℕ → ℕ
inputs_at at [] k = at
inputs_at at (task ∷ tasks) zero = at
inputs_at at (task ∷ tasks) (suc k) = inputs_at (at + task_ports task) tasks k

-- the number of a task's first output port: behind its inputs
abbrev pub outputs_at : ℕ → List Task → ℕ → ℕ
outputs_at at tasks k = inputs_at at tasks k + length (get_or tasks k no_task).inputs

-- ---- words in ports

-- words put one after the other into the ports from `at` on
abbrev pub place : ℕ → List ℕ → List ℕ → List ℕ
place at [] ports = ports
place at (word ∷ words) ports = place (at + 1) words (set ports at word)

-- source ports copied one after the other into the ports from `at` on
abbrev pub copy_to : ℕ → List ℕ → List ℕ → List ℕ
copy_to at [] ports = ports
copy_to at (source ∷ sources) ports = copy_to (at + 1) sources (set ports at (get_or ports source 0))
