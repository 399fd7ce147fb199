-- Tables and files for the worked cases: the smallest one, of 77 bytes, and one with everything once.
use Rattle.std.specs.Prelude.{List, [], ◌∷◌, ◌++◌, ℕ, zero, suc, length}
use Rattle.codec.specs.Numbers.{be}
use Rattle.model.specs.Bytes.{bytes}
use Rattle.model.specs.Values.{int, boolean}
use Rattle.model.specs.Instructions.{Instr, nop, future, call, release, iff, jump, return, switch, Driver, updates, releases, terminates}
use Rattle.file.specs.Tables.{Argument, port, fixed, GuardRow, ModeRow, Table}

abbrev pub mode_row : List ℕ → ℕ → ℕ → ℕ → ModeRow
mode_row name start period begin = record { name = name; start = start; period = period; begin = begin }

-- a guard by its name and arguments
abbrev pub guard_row : List ℕ → List Argument → GuardRow
guard_row function arguments = record { function = function; arguments = arguments }

-- ---- module M { start mode m [period = 5ms] { } }

-- a table of a name, modes and code only
unfoldable pub smallest_with : List ModeRow → List Instr → Table
smallest_with modes code =
    record { name = bytes "M"; sensors = []; actuators = []; tasks = []; drivers = []; guards = []; modes = modes; code = code }

-- a single mode
abbrev pub one_mode : List ModeRow
one_mode = mode_row (bytes "m") 1 5000 0 ∷ []

-- the table of the smallest module
abbrev pub smallest : Table
smallest = smallest_with one_mode (future 2 5000 ∷ return ∷ nop 1 ∷ nop 2 ∷ jump 0 ∷ [])

-- its file
unfoldable pub smallest_file : List ℕ
smallest_file =
    0x00 ∷ 0x00 ∷ 0x00 ∷ 0x49 ∷ 0x01
    ∷ 0x01 ∷ 0x4D ∷ 0x00 ∷ 0x00 ∷ 0x00 ∷ 0x00 ∷ 0x00 ∷ 0x00 ∷ 0x00 ∷ 0x00 ∷ 0x00 ∷ 0x00
    ∷ 0x00 ∷ 0x01 ∷ 0x01 ∷ 0x6D ∷ 0x01 ∷ 0x00 ∷ 0x00 ∷ 0x13 ∷ 0x88 ∷ 0x00 ∷ 0x00 ∷ 0x00 ∷ 0x00
    ∷ 0x00 ∷ 0x05
    ∷ 0x01 ∷ 0x00 ∷ 0x00 ∷ 0x00 ∷ 0x02 ∷ 0x00 ∷ 0x00 ∷ 0x13 ∷ 0x88
    ∷ 0x06 ∷ 0xFF ∷ 0xFF ∷ 0xFF ∷ 0xFF ∷ 0xFF ∷ 0xFF ∷ 0xFF ∷ 0xFF
    ∷ 0x00 ∷ 0x00 ∷ 0x00 ∷ 0x00 ∷ 0x01 ∷ 0xFF ∷ 0xFF ∷ 0xFF ∷ 0xFF
    ∷ 0x00 ∷ 0x00 ∷ 0x00 ∷ 0x00 ∷ 0x02 ∷ 0xFF ∷ 0xFF ∷ 0xFF ∷ 0xFF
    ∷ 0x05 ∷ 0x00 ∷ 0x00 ∷ 0x00 ∷ 0x00 ∷ 0xFF ∷ 0xFF ∷ 0xFF ∷ 0xFF ∷ []

-- ---- everything once

-- ports: sensors 0 int and 1 boolean; actuators 2 int and 3 boolean;
-- the first task's inputs 4 int and 5 boolean, its outputs 6 int and 7 boolean; the second task's output 8 boolean

-- a table with every kind of record
unfoldable pub full_with : List Driver → List GuardRow → List ModeRow → List Instr → Table
full_with drivers guards modes code =
    record {
      name = bytes "Dock_7";
      sensors =
          record { name = bytes "bikes"; type = int; getter = bytes "getBikes" } ∷ record { name = bytes "open"; type = boolean; getter = bytes "g" } ∷ [];
      actuators =
          record { name = bytes "sign"; type = int; start = 4294967295; setter = bytes "setSign" }
          ∷ record { name = bytes "lamp"; type = boolean; start = 1; setter = bytes "s" } ∷ [];
      tasks =
          record {
            name = bytes "count";
            function = bytes "countBikes";
            inputs = int ∷ boolean ∷ [];
            outputs = record { name = bytes "o"; type = int; start = 10 } ∷ record { name = bytes "p"; type = boolean; start = 0 } ∷ [];
          }
          ∷ record { name = bytes "idle"; function = bytes "f"; inputs = []; outputs = record { name = bytes "o"; type = boolean; start = 1 } ∷ [] } ∷ [];
      drivers = drivers;
      guards = guards;
      modes = modes;
      code = code;
    }

-- each kind of driver
abbrev pub all_drivers : List Driver
all_drivers = terminates 0 ∷ terminates 1 ∷ updates 6 2 ∷ updates 1 3 ∷ releases 0 (0 ∷ 1 ∷ []) ∷ releases 1 [] ∷ []

-- each kind of guard
abbrev pub all_guards : List GuardRow
all_guards =
    guard_row (bytes "isTrue") (port 1 ∷ [])
    ∷ guard_row (bytes "isFalse") (fixed boolean 1 ∷ [])
    ∷ guard_row (bytes "less") (port 0 ∷ fixed int 4294967295 ∷ [])
    ∷ guard_row (bytes "equal") (port 7 ∷ port 8 ∷ [])
    ∷ guard_row (bytes "equal") (fixed int 0 ∷ port 6 ∷ []) ∷ []

-- two modes
abbrev pub all_modes : List ModeRow
all_modes = mode_row (bytes "day") 0 2147483647 8 ∷ mode_row (bytes "night") 1 5000 0 ∷ []

-- each instruction
abbrev pub all_code : List Instr
all_code = iff 4 3 ∷ call 5 ∷ release 1 ∷ future 5 2147483647 ∷ return ∷ nop 0 ∷ nop 2 ∷ switch 1 ∷ jump 8 ∷ []

-- a table with every kind of driver, guard and instruction
abbrev pub full : Table
full = full_with all_drivers all_guards all_modes all_code

-- ---- files by their bytes

-- the bytes behind the length, with their length
abbrev pub framed : List ℕ → List ℕ
framed rest = (be 4).put (length rest) ++ rest

-- n tasks of 8 inputs
unfoldable pub wide_tasks : ℕ → List ℕ
wide_tasks zero = []
wide_tasks (suc n) = 1 ∷ 116 ∷ 1 ∷ 102 ∷ 8 ∷ 0 ∷ 0 ∷ 0 ∷ 0 ∷ 0 ∷ 0 ∷ 0 ∷ 0 ∷ 0 ∷ wide_tasks n

-- such tasks, and one whose first input has type 7
abbrev pub one_more : ℕ → List ℕ
one_more n = framed (1 ∷ 1 ∷ 77 ∷ 0 ∷ 0 ∷ 0 ∷ 0 ∷ 0 ∷ 20 ∷ (wide_tasks n ++ (1 ∷ 116 ∷ 1 ∷ 102 ∷ 8 ∷ 7 ∷ [])))

-- a file that breaks off behind the version
abbrev pub begun : List ℕ → List ℕ
begun rest = framed (1 ∷ rest)

-- one that has no record before its drivers, or its guards, or its modes, or its code
abbrev pub to_drivers : List ℕ → List ℕ
to_drivers rest = begun (1 ∷ 77 ∷ 0 ∷ 0 ∷ 0 ∷ 0 ∷ 0 ∷ 0 ∷ 0 ∷ 1 ∷ rest)

-- a file up to its guards
abbrev pub to_guards : List ℕ → List ℕ
to_guards rest = begun (1 ∷ 77 ∷ 0 ∷ 0 ∷ 0 ∷ 0 ∷ 0 ∷ 0 ∷ 0 ∷ 0 ∷ 0 ∷ 1 ∷ rest)

-- a file up to its modes
abbrev pub to_modes : List ℕ → List ℕ
to_modes rest = begun (1 ∷ 77 ∷ 0 ∷ 0 ∷ 0 ∷ 0 ∷ 0 ∷ 0 ∷ 0 ∷ 0 ∷ 0 ∷ 0 ∷ 0 ∷ 1 ∷ rest)

-- a file up to its code
abbrev pub to_code : List ℕ → List ℕ
to_code rest = begun (1 ∷ 77 ∷ 0 ∷ 0 ∷ 0 ∷ 0 ∷ 0 ∷ 0 ∷ 0 ∷ 0 ∷ 0 ∷ 0 ∷ 0 ∷ 0 ∷ 0 ∷ 1 ∷ rest)
