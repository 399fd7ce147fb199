-- Modes as flat rows of numbers, and their code as rows of numbers (document 01, 'The code', 'Room on the board').
-- Modes in rows of 5: period, number of invocations, of updates, of switches, row of the first activity.
-- Activities in rows of 3: frequency, guard (0 none, else its number and 1), what (a task, 0, a target mode). A mode's stand one behind the other: invocations, updates, switches.
-- Past the end of a list stands 0, and what is over its room does not count.
use Rattle.std.specs.Prelude.{ℕ, zero, suc, ◌+◌, ◌*◌, min, ◌≡◌, false, List, [], ◌∷◌, map, length, get_or, take}
use Rattle.std.proofs.Math.Option.{Option, none, some}
use Rattle.std.proofs.lemmas.List.Edits.{sets}
use Rattle.model.specs.Rooms.{task_room, mode_room, activity_room, code_room}
use Rattle.model.specs.Modules.{Act, Call, Update, Mode, each}
use Rattle.model.specs.Instructions.{Instr}
use Rattle.file.specs.Code.{triple_of}
use Rattle.timing.specs.Code.{code_from, begins_from}

-- ---- modes

abbrev pub guard_by : ℕ → Option ℕ
guard_by zero = none
guard_by (suc guard) = some guard

abbrev pub act_by : List ℕ → ℕ → Act ℕ
act_by acts row = record { frequency = get_or acts (row * 3) 0; guard = guard_by (get_or acts (row * 3 + 1) 0); what = get_or acts (row * 3 + 2) 0 }

-- as many activities as `count` says, from this row on
unfoldable pub acts_by : List ℕ → ℕ → ℕ → List (Act ℕ)
acts_by acts row zero = []
acts_by acts row (suc count) = act_by acts row ∷ acts_by acts (row + 1) count

-- the same activity, doing f of what it did
abbrev pub map_act : {A B : Type 0} → (A → B) → Act A → Act B
map_act f act = record { frequency = act.frequency; guard = act.guard; what = f act.what }

-- an invocation by its task, an update: which ports they copy stands in their drivers
abbrev pub call_of : ℕ → Call
call_of task = record { task = task; sources = [] }

abbrev pub update_of : ℕ → Update
update_of what = record { source = 0; target = 0 }

unfoldable pub mode_of : List ℕ → ℕ → ℕ → ℕ → ℕ → ℕ → Mode
mode_of acts period calls updates switches row =
    record {
      name = [];
      start = false;
      period = period;
      calls = map (map_act call_of) (acts_by acts row calls);
      updates = map (map_act update_of) (acts_by acts (row + calls) updates);
      switches = acts_by acts (row + calls + updates) switches;
    }

-- the number in a cell, where it is over its room the room
abbrev pub within : ℕ → List ℕ → ℕ → ℕ
within room cells i = min (get_or cells i 0) room

abbrev pub mode_by : List ℕ → List ℕ → ℕ → Mode
mode_by modes acts k =
    mode_of acts (get_or modes (k * 5) 0) (within activity_room modes (k * 5 + 1)) (within activity_room modes (k * 5 + 2)) (within activity_room modes (k * 5 + 3)) (get_or modes (k * 5 + 4) 0)

-- as many modes as `count` says, from the k-th on
unfoldable pub modes_from : List ℕ → List ℕ → ℕ → ℕ → List Mode
modes_from modes acts k zero = []
modes_from modes acts k (suc count) = mode_by modes acts k ∷ modes_from modes acts (k + 1) count

abbrev pub modes_by : List ℕ → List ℕ → ℕ → List Mode
modes_by modes acts n = modes_from modes acts 0 (min n mode_room)

-- ---- their code

abbrev pub code_by : List ℕ → List ℕ → ℕ → ℕ → List Instr
code_by modes acts n tasks = code_from (min tasks task_room) (modes_by modes acts n) 0

abbrev pub begins_by : List ℕ → List ℕ → ℕ → ℕ → List ℕ
begins_by modes acts n tasks = begins_from (min tasks task_room) (modes_by modes acts n) 0

-- opcode and two arguments
abbrev pub instruction_cells : Instr → List ℕ
instruction_cells i = (triple_of i).0 ∷ (triple_of i).1.0 ∷ (triple_of i).1.1 ∷ []

-- a place in the table; beyond it, its end
abbrev pub place_in : ℕ → ℕ
place_in pc = min pc code_room

-- What the generator gives for rows of modes and activities: the number of instructions, also beyond the table; the code that fits the table, put into its cells from the first on; and where
-- each mode begins. Every other cell is as before.
pub record Generated (modes acts : List ℕ) (n tasks : ℕ) (code begins code' begins' : List ℕ) (count : ℕ) : Type 0 where
  pub size : count ≡ length (code_by modes acts n tasks)
  pub rows : code' ≡ sets code 0 (each instruction_cells (take code_room (code_by modes acts n tasks)))
  pub places : begins' ≡ sets begins 0 (map place_in (begins_by modes acts n tasks))
