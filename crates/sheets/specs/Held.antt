-- What the arrays hold of the module so far: its finished modes, and the mode under way where one is open.
use Rattle.std.specs.Prelude.{ℕ, ◌+◌, ◌*◌, min, ◌≤◌, ◌≡◌, Bool, true, false, cond, List, [], ◌∷◌, ◌++◌, map, length, get_or}
use Rattle.std.proofs.Math.Option.{Option, none, some}
use Rattle.text.specs.declared.Item.{Item}
use Rattle.text.specs.declared.Item.TheVariants as I
use Rattle.model.specs.declared.Operand.{Operand}
use Rattle.model.specs.declared.Operand.TheVariants as O
use Rattle.model.specs.declared.Function.{Function}
use Rattle.model.specs.Rooms.{mode_room, driver_room, guard_room}
use Rattle.model.specs.Values.{function_number, no_operand, word_of}
use Rattle.model.specs.Modules.{Act, Call, Mode, Module, each}
use Rattle.model.specs.Instructions.{Driver}
use Rattle.timing.specs.SlotLaws.{Each}
use Rattle.timing.specs.Code.{terminates_from, mode_drivers}
use Rattle.prescribed.specs.Tables.{type_of, guard_row}
use Rattle.layout.specs.Rows.{rows, names}
use Rattle.layout.specs.Plain.{driver_cells, guard_cells}
use Rattle.emit.specs.Rows.{map_act}
use Rattle.refusals.specs.Names.{letters}
use Rattle.refusals.specs.Draft.{Doing, Draft}
use Rattle.sheets.specs.declared.Filled.{Filled}
use Rattle.sheets.specs.declared.Opened.{Opened}
use Rattle.sheets.specs.declared.Acting.{Acting}
use Rattle.sheets.specs.Sheets.{Sheet, cap}

-- ---- what is held

-- the modes, the one under way among them where one is open
abbrev pub shown : Bool → Draft → List Mode
shown inside draft = draft.built.modes ++ cond inside (draft.mode ∷ []) []

-- terminations, then mode by mode updates and releases
abbrev pub drivers_in : Bool → Draft → List Driver
drivers_in inside draft = terminates_from 0 draft.built.tasks ++ each mode_drivers (shown inside draft)

-- the activities of a mode, what they do told by a number
abbrev pub acts_of : Mode → List (Act ℕ)
acts_of m = map (map_act (λ c. c.task)) m.calls ++ (map (map_act (λ u. 0)) m.updates ++ m.switches)

abbrev pub acts_in : Bool → Draft → List (Act ℕ)
acts_in inside draft = each acts_of (shown inside draft)

-- a guard's number and 1, or 0
abbrev pub guard_code : Option ℕ → ℕ
guard_code none = 0
guard_code (some guard) = guard + 1

-- frequency, guard, what
abbrev pub act_cells : Act ℕ → List ℕ
act_cells a = a.frequency ∷ guard_code a.guard ∷ a.what ∷ []

-- start and period; where it begins is not known yet
abbrev pub head_cells : Mode → List ℕ
head_cells m = cond m.start 1 0 ∷ m.period ∷ 0 ∷ []

-- period, activities of each kind, row of the first activity, of modes whose first activity has the row `row`
unfoldable pub frames : ℕ → List Mode → List (List ℕ)
frames row [] = []
frames row (m ∷ ms) = (m.period ∷ length m.calls ∷ length m.updates ∷ length m.switches ∷ row ∷ []) ∷ frames (row + length (acts_of m)) ms

pub record ArraysHold (inside : Bool) (draft : Draft) (h : Sheet) : Type 0 where
  pub drivers : h.drivers ≡ rows 12 (12 * driver_room) driver_cells (drivers_in inside draft)
  pub acts : h.acts ≡ rows 3 768 act_cells (acts_in inside draft)
  pub guards : h.guards ≡ rows 6 (6 * guard_room) guard_cells (map guard_row draft.built.guards)
  pub names : h.names ≡ names mode_room (map (λ m. m.name) draft.built.modes)
  pub heads : h.heads ≡ rows 3 (3 * mode_room) head_cells draft.built.modes
  pub modes : h.modes ≡ rows 5 40 (λ cells. cells) (frames 0 draft.built.modes)

-- ---- the rooms

-- the cells of a row fit its width, each 32 bits
pub record Fits (width : ℕ) (cells : List ℕ) : Type 0 where
  pub short : length cells ≤ width
  pub small : Each (λ cell. cell ≤ 4294967295) cells

pub record ModeFits (m : Mode) : Type 0 where
  pub name : length m.name ≤ 32
  pub period : m.period ≤ 4294967295

pub record Within (inside : Bool) (draft : Draft) : Type 0 where
  pub few-drivers : length (drivers_in inside draft) ≤ 288
  pub few-acts : length (acts_in inside draft) ≤ 256
  pub few-guards : length draft.built.guards ≤ 256
  pub few-modes : length draft.built.modes ≤ 8
  pub drivers : Each (λ d. Fits 12 (driver_cells d)) (drivers_in inside draft)
  pub acts : Each (λ a. Fits 3 (act_cells a)) (acts_in inside draft)
  pub guards : Each (λ g. Fits 6 (guard_cells (guard_row g))) draft.built.guards
  pub modes : Each ModeFits draft.built.modes

-- ---- what is kept

abbrev pub filled_of : Module → Filled
filled_of M =
    record {
      tasks = cap (length M.tasks);
      drivers = cap (length (terminates_from 0 M.tasks ++ each mode_drivers M.modes));
      acts = cap (length (each acts_of M.modes));
      guards = cap (length M.guards);
      modes = cap (length M.modes);
    }

-- a guard's function: 0 none, else its number and 1
abbrev pub function_in : Option Function → ℕ
function_in none = 0
function_in (some function) = function_number function + 1

-- an operand's place (0 port, 1 int, 2 boolean) and its word
abbrev pub place_cell : Operand → ℕ
place_cell (O.Port number) = 0
place_cell (O.Fixed value) = type_of value + 1

abbrev pub word_cell : Operand → ℕ
word_cell (O.Port number) = cap number
word_cell (O.Fixed value) = cap (word_of value)

abbrev pub acting_of : Doing → Acting
acting_of doing =
    record {
      frequency = cap doing.frequency;
      function = function_in doing.function;
      operands = min (length doing.operands) 2;
      first_place = place_cell (get_or doing.operands 0 no_operand);
      first_word = word_cell (get_or doing.operands 0 no_operand);
      second_place = place_cell (get_or doing.operands 1 no_operand);
      second_word = word_cell (get_or doing.operands 1 no_operand);
    }

-- the number of sources of the task invoked last
unfoldable pub last_sources : List (Act Call) → ℕ
last_sources [] = 0
last_sources (call ∷ []) = length call.what.sources
last_sources (call ∷ next ∷ calls) = last_sources (next ∷ calls)

pub record OpenedHolds (s : List ℕ) (m : Mode) (o : Opened) : Type 0 where
  pub name : m.name ≡ letters s o.name
  pub start : o.start ≡ cond m.start 1 0
  pub period : o.period ≡ cap m.period
  pub calls : o.calls ≡ cap (length m.calls)
  pub updates : o.updates ≡ cap (length m.updates)
  pub switches : o.switches ≡ cap (length m.switches)
  pub sources : o.sources ≡ cap (last_sources m.calls)

-- ---- the whole

-- what is kept is told by the draft; the arrays are, where the draft is within the rooms
pub record PlansHold (s : List ℕ) (inside : Bool) (draft : Draft) (h : Sheet) : Type 0 where
  pub filled : h.plan.filled ≡ filled_of draft.built
  pub acting : h.plan.acting ≡ acting_of draft.doing
  pub opened : inside ≡ true → OpenedHolds s draft.mode h.plan.opened
  pub arrays : Within inside draft → ArraysHold inside draft h

-- ---- order: the grammar's walk knows whether a mode is open

-- which items come while a mode is open, and which while none is
abbrev pub Ordered : Bool → Item → Type 0
Ordered inside (I.TaskEnd name) = inside ≡ false
Ordered inside (I.ModeBegin start at name digits milli) = inside ≡ false
Ordered inside (I.Invoke task arguments) = inside ≡ true
Ordered inside (I.Arg port) = inside ≡ true
Ordered inside (I.Update actuator source) = inside ≡ true
Ordered inside (I.Switch name) = inside ≡ true
Ordered inside I.ModeEnd = inside ≡ true
Ordered inside (I.Module name) = Unit {0}
Ordered inside I.Section = Unit {0}
Ordered inside (I.Constant name value) = Unit {0}
Ordered inside (I.Sensor typ name getter) = Unit {0}
Ordered inside (I.Actuator typ name value setter) = Unit {0}
Ordered inside (I.TaskBegin name) = Unit {0}
Ordered inside (I.Input typ name) = Unit {0}
Ordered inside (I.Output typ name value) = Unit {0}
Ordered inside (I.Activity kind at digits) = Unit {0}
Ordered inside (I.Guard name arguments) = Unit {0}
Ordered inside (I.GuardArg port) = Unit {0}
Ordered inside I.ModuleEnd = Unit {0}
Ordered inside I.End = Unit {0}
Ordered inside (I.No number at) = Unit {0}

-- whether a mode is open behind an item
abbrev pub inside_after : Bool → Item → Bool
inside_after inside (I.ModeBegin start at name digits milli) = true
inside_after inside I.ModeEnd = false
inside_after inside (I.TaskEnd name) = inside
inside_after inside (I.Invoke task arguments) = inside
inside_after inside (I.Arg port) = inside
inside_after inside (I.Update actuator source) = inside
inside_after inside (I.Switch name) = inside
inside_after inside (I.Module name) = inside
inside_after inside I.Section = inside
inside_after inside (I.Constant name value) = inside
inside_after inside (I.Sensor typ name getter) = inside
inside_after inside (I.Actuator typ name value setter) = inside
inside_after inside (I.TaskBegin name) = inside
inside_after inside (I.Input typ name) = inside
inside_after inside (I.Output typ name value) = inside
inside_after inside (I.Activity kind at digits) = inside
inside_after inside (I.Guard name arguments) = inside
inside_after inside (I.GuardArg port) = inside
inside_after inside I.ModuleEnd = inside
inside_after inside I.End = inside
inside_after inside (I.No number at) = inside
