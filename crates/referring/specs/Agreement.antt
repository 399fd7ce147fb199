-- Over the arrays of a table that can stand in a file, the judgments of rows are the reader's test of references (refusal 24).
use Rattle.std.specs.Prelude.{ℕ, ◌+◌, ◌*◌, ◌<◌, ◌≡◌, refl, Bool, true, ◌&&◌, List, [], length, get_or}
use Rattle.std.proofs.Common.{arith, ◌∙◌}
use Rattle.std.proofs.Math.Path.{ap₂}
use Rattle.std.proofs.Math.Dec.{eqb, ltb}
use Rattle.model.specs.Rooms.{task_room, mode_room, driver_room, guard_room, code_room}
use Rattle.model.specs.Modules.{port_types}
use Rattle.model.specs.Instructions.{Instr, nop, future, call, release, iff, jump, return, switch}
use Rattle.file.specs.Tables.{ModeRow, Table}
use Rattle.file.specs.Parts.{all_in}
use Rattle.file.specs.Code.{triple_of}
use Rattle.file.specs.References.{port_roles, good_driver, good_guard, good_instruction, start_modes, good_references}
use Rattle.file.specs.Files.{table}
use Rattle.layout.specs.Rows.{rows}
use Rattle.layout.specs.Plain.{mode_cells, instruction_cells, board_room, struct_of}
use Rattle.layout.specs.Cells.{rows-cell, rows-first}
use Rattle.referring.specs.Rows.{good_begin_in, good_begins_in, start_in, starts_in, good_modes_in, good_instruction_in, good_line_in, good_code_in, good_in}
use Rattle.referring.specs.Fits.{table_fits}
use Rattle.referring.specs.Every.{and_assoc, every-part, starts-part}
use Rattle.referring.specs.Drivers.{drivers-agree}
use Rattle.referring.specs.Guards.{guards-agree}

-- ---- modes

-- what stands where no mode is
abbrev pub no_mode : ModeRow
no_mode = record { name = []; start = 0; period = 0; begin = 0 }

module _ (span : ℕ) (modes : List ModeRow) where
  abbrev pub mode_array : List ℕ
  mode_array = rows 3 span mode_cells modes

  pub mode-cell : (k j : ℕ) → k < length modes → j < 3 → get_or mode_array (k * 3 + j) 0 ≡ get_or (mode_cells (get_or modes k no_mode)) j 0
  mode-cell k j within less = rows-cell 3 span mode_cells no_mode modes (λ i inside. omega arith) k within j less

  pub mode-start : (k : ℕ) → k < length modes → start_in mode_array k ≡ (get_or modes k no_mode).start
  mode-start k within = rows-first 3 span mode_cells no_mode modes (λ i inside. omega arith) k within (omega arith)

  begins-agree : (instructions : ℕ) → good_begins_in mode_array instructions (length modes) ≡ all_in (λ m. ltb m.begin instructions) modes
  unfolding good_begins_in good_begin_in
  begins-agree instructions = every-part (λ m. ltb m.begin instructions) no_mode _ modes (λ k within. rw (mode-cell k 2 within (omega arith)) refl)

  modes-agree : (instructions : ℕ)
      → good_modes_in mode_array (length modes) instructions ≡ (all_in (λ m. ltb m.begin instructions) modes && eqb (start_modes modes) 1)
  unfolding good_modes_in starts_in
  modes-agree instructions = ap₂ (λ (b : Bool) (n : ℕ). b && eqb n 1) (begins-agree instructions) (starts-part no_mode _ modes mode-start)

-- ---- code

instruction-row : (t : Table) (i : Instr)
    → good_instruction_in (triple_of i).0 (triple_of i).1.0 (triple_of i).1.1 (length t.code) (length t.drivers) (length t.tasks) (length t.guards) (length t.modes)
    ≡ good_instruction t i
unfolding good_instruction_in good_instruction
instruction-row t (nop marker) = refl
instruction-row t (future pc delay) = refl
instruction-row t (call driver) = refl
instruction-row t (release task) = refl
instruction-row t (iff guard pc) = refl
instruction-row t (jump pc) = refl
instruction-row t return = refl
instruction-row t (switch mode) = refl

module _ (t : Table) (span : ℕ) where
  abbrev pub code_array : List ℕ
  code_array = rows 3 span instruction_cells t.code

  pub code-cell : (k j : ℕ) → k < length t.code → j < 3 → get_or code_array (k * 3 + j) 0 ≡ get_or (instruction_cells (get_or t.code k return)) j 0
  code-cell k j within less = rows-cell 3 span instruction_cells return t.code (λ i inside. omega arith) k within j less

  code_agree : good_code_in code_array (length t.code) (length t.drivers) (length t.tasks) (length t.guards) (length t.modes)
      ≡ all_in (good_instruction t) t.code
  unfolding good_code_in good_line_in
  code_agree =
      every-part (good_instruction t) return _ t.code (λ k within.
      rw (
        rows-first 3 span instruction_cells return t.code (λ i inside. omega arith) k within (omega arith),
        code-cell k 1 within (omega arith),
        code-cell k 2 within (omega arith),
      )
      (instruction-row t (get_or t.code k return)))

-- ---- the whole

pub good-is : (t : Table) → table.ok t ≡ true → good_in (struct_of t) ≡ good_references t
unfolding good_in struct_of good_references
good-is t fine =
    let fits = table_fits t fine in
    let roles = port_roles t.sensors t.actuators t.tasks in
    let types = port_types t.sensors t.actuators t.tasks in
    let drivers = drivers-agree t.sensors t.actuators t.tasks roles board_room (4 * task_room) driver_room t.drivers fits.driven (12 * driver_room) in
    let guards = guards-agree roles types board_room guard_room t.guards fits.guarded (6 * guard_room) in
    let modes = modes-agree (3 * mode_room) t.modes (length t.code) in
    let code = code_agree t (3 * code_room) in
    ap₂ ◌&&◌ drivers (ap₂ ◌&&◌ guards (ap₂ ◌&&◌ modes code))
    ∙ and_assoc (all_in (good_driver roles types t.tasks) t.drivers) (all_in (good_guard roles types) t.guards) _
