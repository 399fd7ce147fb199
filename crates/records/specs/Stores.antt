-- Where the code puts the numbers and names of a driver, a guard, a mode and an instruction, by its number among those of its kind.
use Rattle.std.specs.Prelude.{ℕ, ◌+◌, ◌*◌, List, set}
use Rattle.model.specs.Instructions.{Instr, Driver}
use Rattle.file.specs.Tables.{Argument, GuardRow, ModeRow}
use Rattle.layout.specs.Rows.{name_cells}
use Rattle.layout.specs.Plain.{driver_cells, argument_cells, guard_cells, mode_cells, instruction_cells}
use Rattle.layout.specs.Filling.{stored}

unfoldable pub store_source : ℕ → ℕ → ℕ → List ℕ → List ℕ
store_source place k port l = set l (place + k) port

unfoldable pub store_driver : ℕ → Driver → List ℕ → List ℕ
store_driver k d l = stored l (k * 12) (driver_cells d)

unfoldable pub store_argument : ℕ → ℕ → Argument → List ℕ → List ℕ
store_argument place k a l = stored l (place + 2 * k) (argument_cells a)

unfoldable pub store_guard : ℕ → GuardRow → List ℕ → List ℕ
store_guard k g l = stored l (k * 6) (guard_cells g)

-- names and rows
unfoldable pub store_mode : ℕ → ModeRow → List ℕ × List ℕ → List ℕ × List ℕ
store_mode k m l = (stored l.0 (k * 33) (name_cells m.name), stored l.1 (k * 3) (mode_cells m))

unfoldable pub store_instruction : ℕ → Instr → List ℕ → List ℕ
store_instruction k i l = stored l (k * 3) (instruction_cells i)
