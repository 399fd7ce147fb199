-- The board of a table whose parts are flat rows of numbers (crate tables). Past the end of a list stands 0, past a room what does nothing.
-- Instructions in rows of 3: opcode and two arguments. Drivers in rows of 12: tag, target port or task, number of sources, source ports.
-- Modes in rows of 3: start, period, begin. Tasks in rows of 4: first input, number of inputs, first output, number of outputs.
use Rattle.std.specs.Prelude.{ℕ, ◌+◌, ◌*◌, cond, List, [], get_or, eqb, ltb}
use Rattle.model.specs.Rooms.{driver_room, mode_room, task_room}
use Rattle.model.specs.Instructions.{Instr, nop, future, call, release, iff, jump, return, switch, Driver, updates, releases, terminates, no_driver}
use Rattle.machine.specs.Boards.{Board, Lot}
use Rattle.machine.specs.Store.{part}
use Rattle.guards.specs.Tabs.{tab}
use Rattle.guards.specs.Rows.{guards_by}
use Rattle.steps.specs.declared.Row.{Row}

abbrev pub instr_by : ℕ → ℕ → ℕ → Instr
instr_by opcode first second =
    cond (eqb opcode 1) (future first second)
    (cond (eqb opcode 2) (call first)
    (cond (eqb opcode 3) (release first)
    (cond (eqb opcode 4) (iff first second)
    (cond (eqb opcode 5) (jump first)
    (cond (eqb opcode 6) return
    (cond (eqb opcode 7) (switch first)
    (nop first)))))))

abbrev pub instr_at : List ℕ → ℕ → Instr
instr_at rows i = instr_by (get_or rows (i * 3) 0) (get_or rows (i * 3 + 1) 0) (get_or rows (i * 3 + 2) 0)

abbrev pub row_of : List ℕ → ℕ → Row
row_of rows i = record { opcode = get_or rows (i * 3) 0; first = get_or rows (i * 3 + 1) 0; second = get_or rows (i * 3 + 2) 0 }

abbrev pub driver_at : List ℕ → ℕ → Driver
driver_at rows i =
    cond (eqb (get_or rows (i * 12) 0) 4) (releases (get_or rows (i * 12 + 1) 0) (part rows (i * 12 + 3) (get_or rows (i * 12 + 2) 0)))
    (cond (eqb (get_or rows (i * 12) 0) 5) (terminates (get_or rows (i * 12 + 1) 0))
    (updates (get_or rows (i * 12 + 3) 0) (get_or rows (i * 12 + 1) 0)))

abbrev pub begin_at : List ℕ → ℕ → ℕ
begin_at rows i = get_or rows (i * 3 + 2) 0

abbrev pub lot_at : List ℕ → ℕ → Lot
lot_at rows i = record { inputs = get_or rows (i * 4) 0; outputs = get_or rows (i * 4 + 2) 0; results = get_or rows (i * 4 + 3) 0 }

abbrev pub drivers_by : List ℕ → List Driver
drivers_by rows = tab (driver_at rows) driver_room

abbrev pub driver_in : List ℕ → ℕ → Driver
driver_in rows driver = get_or (drivers_by rows) driver no_driver

abbrev pub begins_by : List ℕ → List ℕ
begins_by rows = tab (begin_at rows) mode_room

abbrev pub lots_by : List ℕ → List Lot
lots_by rows = tab (lot_at rows) task_room

abbrev pub board_by : ℕ → List ℕ → List ℕ → List ℕ → List ℕ → List ℕ → List ℕ → List ℕ → ℕ → ℕ → Board
board_by instructions code drivers guards modes tasks types starts sensors start =
    record {
      code = tab (instr_at code) instructions;
      drivers = drivers_by drivers;
      guards = guards_by guards;
      begins = begins_by modes;
      types = types;
      starts = starts;
      lots = lots_by tasks;
      sensors = sensors;
      start = start;
    }

-- what a reaction reads of it
abbrev pub reactive : ℕ → List ℕ → List ℕ → List ℕ → List ℕ → List ℕ → Board
reactive instructions code drivers guards modes tasks = board_by instructions code drivers guards modes tasks [] [] 0 0

-- a cell of a task's row
abbrev pub task_cell : List ℕ → ℕ → ℕ → ℕ
task_cell rows task cell = cond (ltb task task_room) (get_or rows (task * 4 + cell) 0) 0
