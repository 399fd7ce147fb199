-- The bytes of a file's parts, by the cells of a table's arrays that they stand in, whatever these hold.
use Rattle.std.specs.Prelude.{ℕ, zero, suc, ◌+◌, ◌-◌, ◌*◌, ◌/◌, ◌%◌, ◌≤◌, min, ◌≡◌, refl, List, [], ◌∷◌, ◌++◌, cond, eqb, get_or}
use Rattle.std.proofs.Common.{arith, add-one}
use Rattle.model.specs.Rooms.{sensor_room, actuator_room, task_room, port_room, argument_room, driver_room, guard_room, mode_room, code_room}
use Rattle.model.specs.Bytes.{bytes}
use Rattle.model.specs.Values.{function_names}
use Rattle.layout.specs.Rows.{name_cells}
use Rattle.writing.specs.Puts.{parts}

-- ---- numbers, the highest byte first

-- the lowest byte of a number
unfoldable pub byte_of : ℕ → List ℕ
byte_of n = n % 256 ∷ []

-- its two lowest bytes
unfoldable pub pair_of : ℕ → List ℕ
pair_of n = byte_of (n / 256) ++ byte_of n

-- its four lowest bytes
unfoldable pub quad_of : ℕ → List ℕ
quad_of n = pair_of (n / 65536) ++ pair_of n

-- a cell of an array
abbrev pub cell : List ℕ → ℕ → ℕ
cell cells i = get_or cells i 0

-- Counts: two bytes, but one inside a record; no more parts than there is room for.
abbrev pub counted : (ℕ → List ℕ) → ℕ → (ℕ → List ℕ) → ℕ → List ℕ
counted count room part many = count many ++ parts part (min many room)

-- letters from a cell on
abbrev pub letters_in : List ℕ → ℕ → ℕ → List ℕ
letters_in names first many = parts (λ k. byte_of (cell names (first + k))) many

-- Strings: length byte, bytes; in the row that begins at cell `row`
unfoldable pub name_in : List ℕ → ℕ → List ℕ
name_in names row = byte_of (cell names row) ++ letters_in names (row + 1) (cell names row)

-- ---- sensors, actuators

-- sensors (name, type, getter)
unfoldable pub sensor_in : List ℕ → List ℕ → ℕ → List ℕ
sensor_in names types k = name_in names (k * 66) ++ (byte_of (cell types k) ++ name_in names (k * 66 + 33))

-- the sensors, with their count before them
unfoldable pub sensors_in : List ℕ → List ℕ → ℕ → List ℕ
sensors_in names types many = counted pair_of sensor_room (sensor_in names types) many

-- actuators (name, type, value, setter), the first at port `from`
unfoldable pub actuator_in : List ℕ → List ℕ → List ℕ → ℕ → ℕ → List ℕ
actuator_in names types starts from k =
    name_in names (k * 66) ++ (byte_of (cell types (from + k)) ++ (quad_of (cell starts (from + k)) ++ name_in names (k * 66 + 33)))

-- the actuators, with their count before them
unfoldable pub actuators_in : List ℕ → List ℕ → List ℕ → ℕ → ℕ → List ℕ
actuators_in names types starts from many = counted pair_of actuator_room (actuator_in names types starts from) many

-- ---- tasks

-- inputs as count and types, the first at port `from`
unfoldable pub inputs_in : List ℕ → ℕ → ℕ → List ℕ
inputs_in types from many = counted byte_of port_room (λ k. byte_of (cell types (from + k))) many

-- outputs as name, type, value, the first in row `row` of the names and at port `from`
unfoldable pub output_in : List ℕ → List ℕ → List ℕ → ℕ → ℕ → ℕ → List ℕ
output_in names types starts row from k = name_in names ((row + k) * 33) ++ (byte_of (cell types (from + k)) ++ quad_of (cell starts (from + k)))

-- the outputs of a task, with their count before them
unfoldable pub outputs_in : List ℕ → List ℕ → List ℕ → ℕ → ℕ → ℕ → List ℕ
outputs_in names types starts row from many = counted byte_of port_room (output_in names types starts row from) many

-- the arrays that hold the tasks: their names, their outputs' names, types and values by port, their rows
pub record TaskArrays : Type 0 where
  pub names : List ℕ
  pub output_names : List ℕ
  pub types : List ℕ
  pub starts : List ℕ
  pub rows : List ℕ

-- the outputs of the first tasks
unfoldable pub outputs_before : List ℕ → ℕ → ℕ
outputs_before rows zero = 0
outputs_before rows (suc k) = outputs_before rows k + min (cell rows (k * 4 + 3)) port_room

pub outputs-next : (rows : List ℕ) (k : ℕ) → outputs_before rows (k + 1) ≡ outputs_before rows k + min (cell rows (k * 4 + 3)) port_room
unfolding outputs_before
outputs-next rows k = rw add-one refl

-- tasks (name, function, inputs, outputs)
unfoldable pub task_in : TaskArrays → ℕ → List ℕ
task_in t k =
    name_in t.names (k * 66) ++ (name_in t.names (k * 66 + 33)
    ++ (inputs_in t.types (cell t.rows (k * 4)) (cell t.rows (k * 4 + 1))
    ++ outputs_in t.output_names t.types t.starts (outputs_before t.rows k) (cell t.rows (k * 4 + 2)) (cell t.rows (k * 4 + 3))))

-- the tasks, with their count before them
unfoldable pub tasks_in : TaskArrays → ℕ → List ℕ
tasks_in t many = counted pair_of task_room (task_in t) many

-- ---- drivers

-- as many source ports as a count says, from cell `from` on
unfoldable pub sources_in : List ℕ → ℕ → ℕ → List ℕ
sources_in rows from many = counted byte_of port_room (λ k. pair_of (cell rows (from + k))) many

-- drivers (3 source port, actuator port; 4 task, count, source ports; 5 task; numbers two bytes)
unfoldable pub driver_at : List ℕ → ℕ → List ℕ
driver_at rows row =
    byte_of (cell rows row)
    ++ cond (eqb (cell rows row) 3) (pair_of (cell rows (row + 3)) ++ pair_of (cell rows (row + 1)))
    (pair_of (cell rows (row + 1)) ++ cond (eqb (cell rows row) 4) (sources_in rows (row + 3) (cell rows (row + 2))) [])

-- the drivers, with their count before them
unfoldable pub drivers_in : List ℕ → ℕ → List ℕ
drivers_in rows many = counted pair_of driver_room (λ k. driver_at rows (k * 12)) many

-- ---- guards

-- the name of a guard's function, by its number
unfoldable pub function_in : ℕ → List ℕ
function_in number = name_cells (get_or function_names number (bytes "equal"))

pub function-other : (number : ℕ) → 3 ≤ number → function_in 3 ≡ function_in number
unfolding function_in
function-other zero h = absurd (omega arith)
function-other (suc zero) h = absurd (omega arith)
function-other (suc (suc zero)) h = absurd (omega arith)
function-other (suc (suc (suc zero))) h = refl
function-other (suc (suc (suc (suc number)))) h = refl

-- arguments: 0 port, or 1 type and value
unfoldable pub argument_in : ℕ → ℕ → List ℕ
argument_in place word = cond (eqb place 0) (byte_of 0 ++ pair_of word) (byte_of 1 ++ (byte_of (place - 1) ++ quad_of word))

-- guards (function, count, arguments)
unfoldable pub guard_at : List ℕ → ℕ → List ℕ
guard_at rows row =
    function_in (cell rows row)
    ++ counted byte_of argument_room (λ k. argument_in (cell rows (row + 2 + 2 * k)) (cell rows (row + 3 + 2 * k))) (cell rows (row + 1))

-- the guards, with their count before them
unfoldable pub guards_in : List ℕ → ℕ → List ℕ
guards_in rows many = counted pair_of guard_room (λ k. guard_at rows (k * 6)) many

-- ---- modes and code

-- modes (name, start 0 or 1, period four bytes, begin pc four bytes)
unfoldable pub mode_in : List ℕ → List ℕ → ℕ → List ℕ
mode_in names rows k =
    name_in names (k * 33) ++ (byte_of (cell rows (k * 3)) ++ (quad_of (cell rows (k * 3 + 1)) ++ quad_of (cell rows (k * 3 + 2))))

-- the modes, with their count before them
unfoldable pub modes_in : List ℕ → List ℕ → ℕ → List ℕ
modes_in names rows many = counted pair_of mode_room (mode_in names rows) many

-- code (opcode, two arguments of four bytes)
unfoldable pub instruction_at : List ℕ → ℕ → List ℕ
instruction_at rows row = byte_of (cell rows row) ++ (quad_of (cell rows (row + 1)) ++ quad_of (cell rows (row + 2)))

-- the code, with its count before it
unfoldable pub code_in : List ℕ → ℕ → List ℕ
code_in rows many = counted pair_of code_room (λ k. instruction_at rows (k * 3)) many
