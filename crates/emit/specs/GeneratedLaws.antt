-- What the generator gives: no second answer is right; and code that fits the table (document 01, refusal 13: code over 4,096) stands there whole.
use Rattle.std.specs.Prelude.{ℕ, zero, suc, ◌+◌, ◌*◌, min, ◌≤◌, ◌≡◌, refl, List, [], ◌∷◌, ◌++◌, map, length, drop}
use Rattle.std.proofs.Common.{arith, sym, ◌∙◌, ap, length-append, take_all}
use Rattle.std.proofs.lemmas.List.Edits.{sets, sets-eq}
use Rattle.model.specs.Rooms.{code_room, mode_room, task_room}
use Rattle.model.specs.Modules.{Mode, each}
use Rattle.model.specs.Instructions.{Instr}
use Rattle.timing.specs.Code.{mode_code, mode_driver_count, code_from, begins_from}
use Rattle.emit.specs.Rows.{modes_from, modes_by, code_by, begins_by, instruction_cells, place_in, Generated}

-- The answer and both arrays are settled.
pub no_second : {modes acts : List ℕ} {n tasks : ℕ} {code begins code' begins' code'' begins'' : List ℕ} {count count' : ℕ}
    → Generated modes acts n tasks code begins code' begins' count → Generated modes acts n tasks code begins code'' begins'' count' → (count ≡ count') × (code' ≡ code'') × (begins' ≡ begins'')
no_second g h = (g.size ∙ sym h.size, g.rows ∙ sym h.rows, g.places ∙ sym h.places)

-- ---- code that fits

-- a row has three cells
pub length-rows : (code : List Instr) → length (each instruction_cells code) ≡ length code * 3
length-rows [] = refl
length-rows (i ∷ code) = let e = length-rows code in omega arith

pub length-begins : (n : ℕ) (ms : List Mode) (pc : ℕ) → length (begins_from n ms pc) ≡ length ms
unfolding begins_from
length-begins n [] pc = refl
length-begins n (m ∷ ms) pc = ap suc (length-begins (n + mode_driver_count m) ms (pc + length (mode_code n m pc)))

length-modes : (modes acts : List ℕ) (k count : ℕ) → length (modes_from modes acts k count) ≡ count
unfolding modes_from
length-modes modes acts k zero = refl
length-modes modes acts k (suc count) = ap suc (length-modes modes acts (k + 1) count)

-- every mode of code that fits begins in the table
begins-fit : (n : ℕ) (ms : List Mode) (pc : ℕ) → pc + length (code_from n ms pc) ≤ code_room → map place_in (begins_from n ms pc) ≡ begins_from n ms pc
unfolding code_from begins_from
begins-fit n [] pc h = refl
begins-fit n (m ∷ ms) pc h =
    let code = code_from (n + mode_driver_count m) ms (pc + length (mode_code n m pc)) in
    let l : length (mode_code n m pc ++ code) ≡ length (mode_code n m pc) + length code = length-append (mode_code n m pc) code in
    let e : place_in pc ≡ pc = omega arith in
    rw (e, begins-fit (n + mode_driver_count m) ms (pc + length (mode_code n m pc)) (omega arith)) refl

module _ {modes acts : List ℕ} {n tasks : ℕ} {code begins code' begins' : List ℕ} {count : ℕ} (g : Generated modes acts n tasks code begins code' begins' count) (fits : count ≤ code_room) where
  pub whole_code : code' ≡ sets code 0 (each instruction_cells (code_by modes acts n tasks))
  whole_code = let s = g.size in g.rows ∙ rw (take_all code_room (code_by modes acts n tasks) (omega arith)) refl

  pub whole-begins : begins' ≡ sets begins 0 (begins_by modes acts n tasks)
  whole-begins = let s = g.size in g.places ∙ rw (begins-fit (min tasks task_room) (modes_by modes acts n) 0 (omega arith)) refl

  -- in arrays with room: the code's rows in front, all else as before
  pub code-cells : length code ≡ code_room * 3 → code' ≡ each instruction_cells (code_by modes acts n tasks) ++ drop (count * 3) code
  code-cells room =
      let s = g.size in
      let rows = each instruction_cells (code_by modes acts n tasks) in
      let l : 0 + length rows ≡ count * 3 = omega (arith, length-rows (code_by modes acts n tasks)) in
      whole_code ∙ sets-eq rows code 0 (omega arith) ∙ ap (λ (i : ℕ). rows ++ drop i code) l

  pub begin-cells : length begins ≡ mode_room → begins' ≡ begins_by modes acts n tasks ++ drop (min n mode_room) begins
  begin-cells room =
      let places = begins_by modes acts n tasks in
      let l : 0 + length places ≡ min n mode_room = omega (arith, length-begins (min tasks task_room) (modes_by modes acts n) 0, length-modes modes acts 0 (min n mode_room)) in
      whole-begins ∙ sets-eq places begins 0 (omega arith) ∙ ap (λ (i : ℕ). places ++ drop i begins) l
