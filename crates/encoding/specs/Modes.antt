-- Modes and code: what is written from their rows is what their codecs write.
use Rattle.std.specs.Prelude.{ℕ, ◌+◌, ◌*◌, ◌≤◌, ◌<◌, ◌≡◌, true, length}
use Rattle.std.proofs.Common.{arith, ◌∙◌, leb-true, ltb-true}
use Rattle.std.proofs.Math.Path.{refl, sym, ap, ap₂}
use mathlib.Core.List.{List, [], ◌++◌, map}
use Rattle.std.proofs.Math.ListN.{get_or, length-map}
use Rattle.codec.specs.Numbers.{byte, be}
use Rattle.codec.proofs.Numbers.{be-below}
use Rattle.codec.specs.Sequences.{dep, dep_put}
use Rattle.codec.proofs.Sequences.{dep-ok}
use Rattle.codec.specs.Views.{check, shape, view, view_put}
use Rattle.codec.proofs.Views.{check-ok, shape-ok}
use Rattle.model.specs.Rooms.{mode_room, code_room}
use Rattle.model.specs.Instructions.{Instr, return}
use Rattle.file.specs.Tables.{ModeRow}
use Rattle.file.specs.Parts.{count}
use Rattle.file.specs.Names.{name}
use Rattle.file.specs.Code.{mode, modes, word, triple, triple_of, instruction, code}
use Rattle.layout.specs.Rows.{rows, names}
use Rattle.layout.specs.Plain.{mode_cells, instruction_cells}
use Rattle.layout.specs.Cells.{rows-cell, rows-first}
use Rattle.referring.specs.Fits.{Listed}
use Rattle.referring.specs.Agreement.{no_mode, mode-cell}
use Rattle.writing.specs.Cells.{byte_of, pair_of, quad_of, mode_in, modes_in, instruction_at, code_in}
use Rattle.encoding.specs.Parts.{byte-is, pair_is, quad_is, counted_is}
use Rattle.encoding.specs.NameLaws.{narrow-map, name-most, name-row}
use Rattle.encoding.specs.Ports.{count-put, map_at}

-- a number of four bytes that can stand in a file
pub four_is : (n : ℕ) → (be 4).ok n ≡ true → quad_of n ≡ (be 4).put n
four_is n h = let l = be-below 4 n h in quad_is n (omega arith)

-- ---- modes

mode-ok : (m : ModeRow) → mode.ok m ≡ true → (name.ok m.name ≡ true) × (m.start ≤ 1) × ((be 4).ok m.period ≡ true) × ((be 4).ok m.begin ≡ true)
unfolding mode
mode-ok m h =
    let (p, r) = dep-ok _ _ _ m.name (m.start, (m.period, m.begin)) (shape-ok _ _ _ m h) in
    let (q, s) = dep-ok _ _ _ m.start (m.period, m.begin) r in
    let (u, v) = dep-ok _ _ _ m.period m.begin s in
    (p, leb-true m.start 1 (check-ok _ _ _ _ q).0, (check-ok _ _ _ _ u).1, v)

mode-put : (m : ModeRow) → mode.put m ≡ name.put m.name ++ (byte.put m.start ++ ((be 4).put m.period ++ (be 4).put m.begin))
unfolding mode check shape view view_put dep dep_put
mode-put m = refl

module _ (room size : ℕ) (list : List ModeRow) (fine : Listed mode mode_room list) where
  abbrev named : List (List ℕ)
  named = map (λ (m : ModeRow). m.name) list

  mode-is : (k : ℕ) → k < length list → mode_in (names room named) (rows 3 size mode_cells list) k ≡ mode.put (get_or list k no_mode)
  unfolding mode_in
  mode-is k h =
      let m = get_or list k no_mode in
      let (p, q, u, v) = mode-ok m (fine.fine no_mode k h) in
      let narrow = narrow-map (λ (x : ModeRow). x.name) no_mode list (λ i g. name-most (get_or list i no_mode).name (mode-ok (get_or list i no_mode) (fine.fine no_mode i g)).0) in
      let e : get_or named k [] ≡ m.name = map_at (λ (x : ModeRow). x.name) list no_mode [] k h in
      let few = length-map list (λ (x : ModeRow). x.name) in
      ap₂ (λ (a b : List ℕ). a ++ b) (name-row room named narrow k (k * 33) refl (omega arith) (ap name.ok e ∙ p) ∙ ap name.put e)
      (ap₂ (λ (a b : List ℕ). a ++ b) (ap byte_of (rows-first 3 size mode_cells no_mode list (λ i g. omega arith) k h (omega arith)) ∙ byte-is m.start (omega arith))
      (ap₂ (λ (a b : List ℕ). a ++ b) (ap quad_of (mode-cell size list k 1 h (omega arith)) ∙ four_is m.period u)
      (ap quad_of (mode-cell size list k 2 h (omega arith)) ∙ four_is m.begin v)))
      ∙ sym (mode-put m)

  pub modes-is : modes_in (names room named) (rows 3 size mode_cells list) (length list) ≡ modes.put list
  unfolding modes_in modes
  modes-is =
      let few = fine.few in
      counted_is pair_of mode_room _ no_mode list few (count 2 mode_room) mode (pair_is (length list) (omega arith) ∙ sym (count-put 2 mode_room (length list))) mode-is

-- ---- code

instruction-ok : (i : Instr) → instruction.ok i ≡ true → ((triple_of i).0 < 8) × ((be 4).ok (triple_of i).1.0 ≡ true) × ((be 4).ok (triple_of i).1.1 ≡ true)
unfolding instruction triple word
instruction-ok i h =
    let x = triple_of i in
    let (p, r) = dep-ok _ _ _ x.0 x.1 (shape-ok _ _ _ i h) in
    let (u, v) = dep-ok _ _ _ x.1.0 x.1.1 r in
    (ltb-true x.0 8 (check-ok _ _ _ _ p).0, (check-ok _ _ _ _ u).1, (check-ok _ _ _ _ v).1)

instruction-put : (i : Instr) → instruction.put i ≡ byte.put (triple_of i).0 ++ ((be 4).put (triple_of i).1.0 ++ (be 4).put (triple_of i).1.1)
unfolding instruction triple word check shape view view_put dep dep_put
instruction-put i = refl

module _ (size : ℕ) (list : List Instr) (fine : Listed instruction code_room list) where
  instruction-is : (k : ℕ) → k < length list → instruction_at (rows 3 size instruction_cells list) (k * 3) ≡ instruction.put (get_or list k return)
  unfolding instruction_at
  instruction-is k h =
      let i = get_or list k return in
      let (p, u, v) = instruction-ok i (fine.fine return k h) in
      ap₂ (λ (a b : List ℕ). a ++ b) (ap byte_of (rows-first 3 size instruction_cells return list (λ n g. omega arith) k h (omega arith)) ∙ byte-is (triple_of i).0 (omega arith))
      (ap₂ (λ (a b : List ℕ). a ++ b) (ap quad_of (rows-cell 3 size instruction_cells return list (λ n g. omega arith) k h 1 (omega arith)) ∙ four_is (triple_of i).1.0 u)
      (ap quad_of (rows-cell 3 size instruction_cells return list (λ n g. omega arith) k h 2 (omega arith)) ∙ four_is (triple_of i).1.1 v))
      ∙ sym (instruction-put i)

  pub code_is : code_in (rows 3 size instruction_cells list) (length list) ≡ code.put list
  unfolding code_in code
  code_is =
      let few = fine.few in
      counted_is pair_of code_room _ return list few (count 2 code_room) instruction (pair_is (length list) (omega arith) ∙ sym (count-put 2 code_room (length list))) instruction-is
