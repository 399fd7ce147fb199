-- The table of a module: what its file holds (document 01, 'The code' and 'The file').
use Rattle.std.specs.Prelude.{ℕ, cond, List, [], ◌∷◌, map, get_or, take}
use Rattle.model.specs.Values.{int, boolean, word_of, function_names, function_number, operands_of}
use Rattle.model.specs.Modules.{Module, Mode}
use Rattle.model.specs.declared.Value.{Value}
use Rattle.model.specs.declared.Value.TheVariants.{Int, Flag}
use Rattle.model.specs.declared.Operand.{Operand}
use Rattle.model.specs.declared.Operand.TheVariants.{Port, Fixed}
use Rattle.model.specs.declared.Guard.{Guard}
use Rattle.file.specs.Tables.{Argument, port, fixed, GuardRow, ModeRow, Table}
use Rattle.timing.specs.Code.{code_of, begins_of, drivers_of}

-- the type of a value
abbrev pub type_of : Value → ℕ
type_of (Int number) = int
type_of (Flag flag) = boolean

-- arguments: 0 port, or 1 type and value
abbrev pub argument_of : Operand → Argument
argument_of (Port number) = port number
argument_of (Fixed value) = fixed (type_of value) (word_of value)

-- a guard as the file has it
abbrev pub guard_row : Guard → GuardRow
guard_row guard =
    record {
      function = get_or function_names (function_number guard.function) [];
      arguments = take (operands_of guard.function) (argument_of guard.first ∷ argument_of guard.second ∷ []);
    }

-- a mode and where its code begins
abbrev pub mode_rows : List Mode → List ℕ → List ModeRow
mode_rows [] begins = []
mode_rows (m ∷ ms) [] = []
mode_rows (m ∷ ms) (begin ∷ begins) = record { name = m.name; start = cond m.start 1 0; period = m.period; begin = begin } ∷ mode_rows ms begins

-- the table of a module
unfoldable pub table_of : Module → Table
table_of M =
    record {
      name = M.name;
      sensors = M.sensors;
      actuators = M.actuators;
      tasks = M.tasks;
      drivers = drivers_of M;
      guards = map guard_row M.guards;
      modes = mode_rows M.modes (begins_of M);
      code = code_of M;
    }
