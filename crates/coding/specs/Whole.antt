-- The table of a module before its code is made, and its modes in rows: coded, it is the module's table.
use Rattle.std.specs.Prelude.{ℕ, zero, suc, ◌+◌, ◌-◌, ◌*◌, ◌≤◌, ◌≡◌, length, set}
use Rattle.std.proofs.Common.{arith, ap₂, ◌∙◌, length-append}
use Rattle.std.proofs.Math.Path.{refl, sym, ap}
use mathlib.Core.List.{List, [], ◌∷◌, ◌++◌, map, append_assoc}
use Rattle.std.proofs.Math.ListN.{length-map}
use Rattle.std.proofs.lemmas.List.Edits.{sets}
use Rattle.std.proofs.lemmas.List.{set_at}
use Rattle.model.specs.Rooms.{task_room, mode_room, code_room}
use Rattle.model.specs.Modules.{Module, Mode, each}
use Rattle.model.specs.Instructions.{Instr}
use Rattle.file.specs.Tables.{ModeRow}
use Rattle.timing.specs.Code.{code_of, begins_of}
use Rattle.prescribed.specs.Tables.{mode_rows, table_of}
use Rattle.tables.specs.declared.Table.{Table as Plain}
use Rattle.layout.specs.Rows.{zeros, padded, rows, names}
use Rattle.layout.specs.Plain.{mode_cells, instruction_cells, struct_of}
use Rattle.layout.specs.Filling.{stored, padded-none, padded-more}
use Rattle.emit.specs.Rows.{code_by, begins_by, modes_by}
use Rattle.emit.specs.Held.{HoldsModes, modes-held}
use Rattle.emit.specs.Erased.{erased, code-of, begins-of}
use Rattle.emit.specs.GeneratedLaws.{length-rows}
use Rattle.accepted.specs.TableRefers.{mode-rows-length, begins-as-many}
use Rattle.build.specs.Accepting.{plain_mode, uncoded}
use Rattle.coding.specs.Codings.{begun_from, with_code, whole_of, Coded, whole}

-- ---- the beginning of each mode

-- so many rows of zeros
blanks : ℕ → List ℕ
blanks zero = []
blanks (suc n) = 0 ∷ 0 ∷ 0 ∷ blanks n

blanks-zeros : (n : ℕ) → zeros (3 * n) ≡ blanks n
unfolding zeros blanks
blanks-zeros zero = refl
blanks-zeros (suc n) = let e : 3 * suc n ≡ suc (suc (suc (3 * n))) = omega arith in ap zeros e ∙ ap (λ (l : List ℕ). 0 ∷ 0 ∷ 0 ∷ l) (blanks-zeros n)

-- a row passed, its last cell written
begun-row : (front : List ℕ) (k a b c begin : ℕ) (rest begins : List ℕ) → length front ≡ k * 3
    → begun_from (front ++ (a ∷ b ∷ c ∷ rest)) k (begin ∷ begins) ≡ begun_from ((front ++ (a ∷ b ∷ begin ∷ [])) ++ rest) (k + 1) begins
unfolding begun_from
begun-row front k a b c begin rest begins e =
    let l : length (front ++ (a ∷ b ∷ [])) ≡ k * 3 + 2 = omega (arith, length-append front (a ∷ b ∷ [])) in
    ap (λ (rows : List ℕ). begun_from rows (k + 1) begins)
    (ap (λ (rows : List ℕ). set rows (k * 3 + 2) begin) (sym (append_assoc front (a ∷ b ∷ []) (c ∷ rest)))
    ∙ set_at (front ++ (a ∷ b ∷ [])) c rest begin (k * 3 + 2) l
    ∙ append_assoc front (a ∷ b ∷ []) (begin ∷ rest)
    ∙ sym (append_assoc front (a ∷ b ∷ begin ∷ []) rest))

passed : (front : List ℕ) (k a b c : ℕ) → length front ≡ k * 3 → length (front ++ (a ∷ b ∷ c ∷ [])) ≡ (k + 1) * 3
passed front k a b c e = omega (arith, length-append front (a ∷ b ∷ c ∷ []))

begun-blanks : (front : List ℕ) (k n : ℕ) → length front ≡ k * 3 → begun_from (front ++ blanks n) k (zeros n) ≡ front ++ blanks n
unfolding begun_from blanks zeros
begun-blanks front k zero e = refl
begun-blanks front k (suc n) e =
    begun-row front k 0 0 0 0 (blanks n) (zeros n) e ∙ begun-blanks (front ++ (0 ∷ 0 ∷ 0 ∷ [])) (k + 1) n (passed front k 0 0 0 e)
    ∙ append_assoc front (0 ∷ 0 ∷ 0 ∷ []) (blanks n)

abbrev cells_of : List ModeRow → List ℕ
cells_of ms = each (λ m. padded 3 (mode_cells m)) ms

begun-modes : (front : List ℕ) (k n : ℕ) (ms : List Mode) (begins : List ℕ) → length front ≡ k * 3 → length begins ≡ length ms
    → begun_from (front ++ (cells_of (map plain_mode ms) ++ blanks n)) k (begins ++ zeros n) ≡ front ++ (cells_of (mode_rows ms begins) ++ blanks n)
unfolding padded zeros
begun-modes front k n [] [] e l = begun-blanks front k n e
begun-modes front k n [] (b ∷ begins) e l = absurd (omega arith)
begun-modes front k n (m ∷ ms) [] e l = absurd (omega arith)
begun-modes front k n (m ∷ ms) (b ∷ begins) e l =
    let r = plain_mode m in
    let row : List ℕ = r.start ∷ r.period ∷ b ∷ [] in
    begun-row front k r.start r.period 0 b (cells_of (map plain_mode ms) ++ blanks n) (begins ++ zeros n) e
    ∙ begun-modes (front ++ row) (k + 1) n ms begins (passed front k r.start r.period b e) (omega arith)
    ∙ append_assoc front row (cells_of (mode_rows ms begins) ++ blanks n)

cells-length : (ms : List ModeRow) → length (cells_of ms) ≡ length ms * 3
unfolding padded zeros
cells-length [] = refl
cells-length (m ∷ ms) = let e = cells-length ms in omega arith

rows-cells : (ms : List ModeRow) → length ms ≤ mode_room → rows 3 (3 * mode_room) mode_cells ms ≡ cells_of ms ++ blanks (mode_room - length ms)
unfolding rows padded
rows-cells ms h =
    let l = cells-length ms in
    let e : 3 * mode_room - length (cells_of ms) ≡ 3 * (mode_room - length ms) = omega arith in
    ap (λ (l : List ℕ). cells_of ms ++ l) (ap zeros e ∙ blanks-zeros (mode_room - length ms))

-- ---- a list put into an array of zeros

sets-padded : (room : ℕ) (cells : List ℕ) → length cells ≤ room → sets (zeros room) 0 cells ≡ padded room cells
unfolding stored
sets-padded room cells h = ap (λ (l : List ℕ). sets l 0 cells) (padded-none room) ∙ padded-more room 0 [] cells refl (omega arith)

-- ---- rows of modes

row-names : (ms : List Mode) (begins : List ℕ) → length begins ≡ length ms → map (λ m. m.name) (map plain_mode ms) ≡ map (λ m. m.name) (mode_rows ms begins)
row-names [] begins e = refl
row-names (m ∷ ms) [] e = absurd (omega arith)
row-names (m ∷ ms) (b ∷ begins) e = ap (λ (l : List (List ℕ)). m.name ∷ l) (row-names ms begins (omega arith))

begun-rows : (ms : List Mode) (begins : List ℕ) → length ms ≤ mode_room → length begins ≡ length ms
    → begun_from (rows 3 (3 * mode_room) mode_cells (map plain_mode ms)) 0 (sets (zeros mode_room) 0 begins) ≡ rows 3 (3 * mode_room) mode_cells (mode_rows ms begins)
unfolding padded
begun-rows ms begins h e =
    let l = length-map ms plain_mode in
    let c = mode-rows-length ms begins e in
    let n = mode_room - length begins in
    let same : mode_room - length (map plain_mode ms) ≡ n = omega arith in
    let alike : mode_room - length (mode_rows ms begins) ≡ n = omega arith in
    ap₂ (λ (r b : List ℕ). begun_from r 0 b)
    (rows-cells (map plain_mode ms) (omega arith) ∙ ap (λ (i : ℕ). cells_of (map plain_mode ms) ++ blanks i) same)
    (sets-padded mode_room begins (omega arith))
    ∙ begun-modes [] 0 n ms begins refl e
    ∙ sym (rows-cells (mode_rows ms begins) (omega arith) ∙ ap (λ (i : ℕ). cells_of (mode_rows ms begins) ++ blanks i) alike)

-- ---- code

each_same : {A B : Type 0} (f g : A → List B) (xs : List A) → ((x : A) → f x ≡ g x) → each f xs ≡ each g xs
each_same f g [] e = refl
each_same {B = B} f g (x ∷ xs) e = ap₂ (λ (a b : List B). a ++ b) (e x) (each_same f g xs e)

code-rows : (code : List Instr) → length code ≤ code_room → sets (zeros (3 * code_room)) 0 (each instruction_cells code) ≡ rows 3 (3 * code_room) instruction_cells code
unfolding rows padded zeros
code-rows code h =
    sets-padded (3 * code_room) (each instruction_cells code) (omega (arith, length-rows code))
    ∙ ap (padded (3 * code_room)) (each_same instruction_cells (λ i. padded 3 (instruction_cells i)) code (λ i. refl))

-- ---- the whole

module _ (M : Module) (modes acts : List ℕ) (few-modes : length M.modes ≤ mode_room) (few-tasks : length M.tasks ≤ task_room) (held : HoldsModes modes acts 0 M.modes) where
  -- the table before its code is made
  abbrev bare : Plain
  bare = struct_of (uncoded M)

  modes-told : bare.modes ≡ length M.modes
  unfolding struct_of uncoded
  modes-told = length-map M.modes plain_mode

  tasks-told : bare.tasks ≡ length M.tasks
  unfolding struct_of uncoded
  tasks-told = refl

  all-modes : modes_by modes acts (length M.modes) ≡ map erased M.modes
  all-modes = modes-held modes acts M.modes few-modes held

  code_is : code_by modes acts bare.modes bare.tasks ≡ code_of M
  code_is = ap₂ (λ (n k : ℕ). code_by modes acts n k) modes-told tasks-told ∙ code-of M modes acts (length M.modes) few-tasks all-modes

  begins-is : begins_by modes acts bare.modes bare.tasks ≡ begins_of M
  begins-is = ap₂ (λ (n k : ℕ). begins_by modes acts n k) modes-told tasks-told ∙ begins-of M modes acts (length M.modes) few-tasks all-modes

  whole-table : length (code_of M) ≤ code_room → whole_of bare (code_of M) (begins_of M) ≡ struct_of (table_of M)
  unfolding struct_of table_of uncoded
  whole-table h =
      let many = begins-as-many M in
      let counts = length-map M.modes plain_mode ∙ sym (mode-rows-length M.modes (begins_of M) many) in
      let named = ap (λ (w : List (List ℕ)). names mode_room w) (row-names M.modes (begins_of M) many) in
      let heads = begun-rows M.modes (begins_of M) few-modes many in
      rw (counts, named, heads, code-rows (code_of M) h) refl

  module _ {code' heads' : List ℕ} {count : ℕ} (coded : Coded modes acts bare.modes bare.tasks (zeros (3 * code_room)) bare.mode_rows code' heads' count) where
    pub coded-count : count ≡ length (code_of M)
    coded-count = coded.made.size ∙ ap (λ (code : List Instr). length code) code_is

    pub coded-table : count ≤ code_room → with_code bare count heads' code' ≡ struct_of (table_of M)
    coded-table h =
        let n = coded-count in
        whole bare coded h ∙ ap₂ (λ (code : List Instr) (begins : List ℕ). whole_of bare code begins) code_is begins-is ∙ whole-table (omega arith)

  -- the same of any table that is the one before its code is made
  pub coded-right : (t : Plain) → t ≡ bare → {code' heads' : List ℕ} {count : ℕ} → Coded modes acts t.modes t.tasks (zeros (3 * code_room)) t.mode_rows code' heads' count
      → (count ≡ length (code_of M)) × (count ≤ code_room → with_code t count heads' code' ≡ struct_of (table_of M))
  coded-right t e = rw e (λ coded. (coded-count coded, coded-table coded))
