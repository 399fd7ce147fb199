-- Where modes begin, which one is the start mode, and the instructions: by the rows as by the table.
use Rattle.std.specs.Prelude.{ℕ, suc, ◌+◌, ◌≤◌, ◌<◌, ◌≡◌, refl, cond, List, [], ◌∷◌, map, eqb, length, get_or}
use Rattle.std.proofs.Common.{add-zero, zero-add, add-one, arith, sym, ap, ap₂, ◌∙◌}
use Rattle.std.proofs.lemmas.List.{length-map}
use Rattle.model.specs.Rooms.{mode_room}
use Rattle.model.specs.Instructions.{Instr, nop, future, call, release, iff, jump, return, switch}
use Rattle.file.specs.Tables.{ModeRow, Table}
use Rattle.file.specs.Code.{triple_of}
use Rattle.machine.specs.Boards.{padded, start_from}
use Rattle.guards.specs.Tabs.{tab}
use Rattle.steps.specs.Rows.{instr_by, instr_at, begin_at, begins_by}
use Rattle.emachine.specs.Machines.{start_by}
use Rattle.layout.specs.Plain.{mode_cells, instruction_cells}
use Rattle.layout.specs.Cells.{rows-first}
use Rattle.referring.specs.Rows.{start_in}
use Rattle.referring.specs.Agreement.{no_mode, mode_array, mode-cell, mode-start, code_array, code-cell}
use Rattle.boards.specs.Lists.{tab-list, tab-padded, map_at, past-cell}

-- ---- modes

start-from : (array : List ℕ) (at : ℕ) (modes : List ModeRow) → ((k : ℕ) → k < length modes → start_in array (at + k) ≡ (get_or modes k no_mode).start)
    → start_by array at (length modes) ≡ start_from at modes
unfolding start_by
start-from array at [] same = refl
start-from array at (m ∷ modes) same =
    let here : start_in array at ≡ m.start = ap (start_in array) (sym (add-zero at)) ∙ same 0 (omega arith) in
    let on =
    start-from array (at + 1) modes (λ k within. let next : at + 1 + k ≡ at + suc k = omega arith in ap (start_in array) next ∙ same (suc k) (omega arith)) in
    ap₂ (λ (s n : ℕ). cond (eqb s 1) at n) here (on ∙ ap (λ (n : ℕ). start_from n modes) (add-one at))

module _ (size : ℕ) (modes : List ModeRow) where
  pub start_is : start_by (mode_array size modes) 0 (length modes) ≡ start_from 0 modes
  start_is = start-from (mode_array size modes) 0 modes (λ k within. ap (start_in (mode_array size modes)) (zero-add k) ∙ mode-start size modes k within)

  pub begins-are : length modes ≤ mode_room → begins_by (mode_array size modes) ≡ padded mode_room 0 (map (λ m. m.begin) modes)
  begins-are few =
      let begin : ModeRow → ℕ = λ m. m.begin in
      let long = length-map modes begin in
      tab-padded (begin_at (mode_array size modes)) mode_room 0 (map begin modes) (omega arith)
      (λ k within. let inside : k < length modes = omega arith in mode-cell size modes k 2 inside (omega arith) ∙ sym (map_at begin modes no_mode 0 k inside))
      (λ k beyond. past-cell 3 size mode_cells no_mode modes (λ i inside. omega arith) k (omega arith) 2)

-- ---- code

instr-is : (i : Instr) → instr_by (triple_of i).0 (triple_of i).1.0 (triple_of i).1.1 ≡ i
instr-is (nop marker) = refl
instr-is (future pc delay) = refl
instr-is (call driver) = refl
instr-is (release task) = refl
instr-is (iff guard pc) = refl
instr-is (jump pc) = refl
instr-is return = refl
instr-is (switch mode) = refl

pub code_is : (t : Table) (size : ℕ) → tab (instr_at (code_array t size)) (length t.code) ≡ t.code
code_is t size =
    tab-list (instr_at (code_array t size)) t.code return (λ k within.
    rw (
      rows-first 3 size instruction_cells return t.code (λ i inside. omega arith) k within (omega arith),
      code-cell t size k 1 within (omega arith),
      code-cell t size k 2 within (omega arith),
    )
    (instr-is (get_or t.code k return)))
