-- The names of a table's rows, and its ports by their names.
use Rattle.std.specs.Prelude.{ℕ, zero, suc, ◌+◌, ◌-◌, ◌*◌, ◌/◌, min, List, [], ◌∷◌, ◌++◌, Bool, true, false, cond, length, get_or, take, drop, ltb}
use Prim.Native.Char.{code}
use Rattle.lines.specs.Sayings.{decimal_of}

-- a row is a length and up to 32 bytes; nothing where the names have no such row
unfoldable pub name_of : List ℕ → ℕ → List ℕ
name_of names row = cond (ltb row (length names / 33)) (take (min (get_or names (row * 33) 0) 32) (drop (row * 33 + 1) names)) []

-- whether a port is among so many from a first on
unfoldable pub among_of : ℕ → ℕ → ℕ → Bool
among_of number first many = cond (ltb number first) false (ltb (number - first) many)

-- a task's row: its first input, how many inputs, its first output, how many outputs
abbrev pub input_in : List ℕ → ℕ → ℕ → Bool
input_in rows number task = among_of number (get_or rows (4 * task) 0) (get_or rows (4 * task + 1) 0)

abbrev pub output_in : List ℕ → ℕ → ℕ → Bool
output_in rows number task = among_of number (get_or rows (4 * task + 2) 0) (get_or rows (4 * task + 3) 0)

-- whether a port is an input or an output of a task
unfoldable pub has_of : List ℕ → ℕ → ℕ → Bool
has_of rows number task = cond (input_in rows number task) true (output_in rows number task)

-- the first of so many tasks from one on that has a port; the one behind them where none has it
unfoldable pub owner_from : List ℕ → ℕ → ℕ → ℕ → ℕ
owner_from rows number k zero = k
owner_from rows number k (suc n) =
    let on = owner_from rows number (k + 1) n in
    cond (has_of rows number k) k on

-- how many outputs so many tasks have
unfoldable pub outputs_of : List ℕ → ℕ → ℕ
outputs_of rows zero = 0
outputs_of rows (suc n) = outputs_of rows n + get_or rows (4 * n + 3) 0

-- an input behind its task's name: its number in the task, from 1, in parentheses
unfoldable pub input_of : ℕ → List ℕ
input_of behind = code "(" ∷ (decimal_of (behind + 1) ++ (code ")" ∷ []))

-- a task's port: `task(1)` for its first input, `task.output` for an output
unfoldable pub task_port_of : List ℕ → List ℕ → List ℕ → ℕ → ℕ → List ℕ
task_port_of task_names output_names rows number task =
    name_of task_names (2 * task) ++
    cond (input_in rows number task) (input_of (number - get_or rows (4 * task) 0))
    (cond (output_in rows number task) (code "." ∷ name_of output_names (outputs_of rows task + (number - get_or rows (4 * task + 2) 0))) [])

-- a port by its number: the name of a sensor or an actuator, else a task's port
unfoldable pub port_of : List ℕ → List ℕ → List ℕ → List ℕ → List ℕ → ℕ → ℕ → ℕ → ℕ → List ℕ
port_of sensor_names actuator_names task_names output_names rows sensors actuators tasks number =
    cond (ltb number sensors) (name_of sensor_names (2 * number))
    (cond (ltb (number - sensors) actuators) (name_of actuator_names (2 * (number - sensors)))
    (task_port_of task_names output_names rows number (owner_from rows number 0 tasks)))
