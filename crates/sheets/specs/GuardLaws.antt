-- The activity under way and its guard: what is kept of them is what the draft has, and a guard's row is the table's.
use Rattle.std.specs.Prelude.{ℕ, zero, suc, ◌+◌, ◌-◌, ◌*◌, ◌≤◌, min, ◌≡◌, refl, Bool, true, false, cond, List, [], ◌∷◌, ◌++◌, map, eqb, ltb, length, get_or, pos, negsuc}
use Rattle.std.proofs.Common.{arith, sym, ap, ap₂, ◌∙◌, append-nil, length-append, ltb-true, ltb-false}
use Rattle.std.proofs.Math.Option.{Option, none, some}
use Rattle.std.proofs.lemmas.List.{length-map}
use Rattle.std.specs.Int.{w32}
use mir.Val.{of_z, to_z, sel}
use Rattle.model.specs.declared.Operand.{Operand}
use Rattle.model.specs.declared.Operand.TheVariants as O
use Rattle.model.specs.declared.Value.TheVariants.{Int, Flag}
use Rattle.model.specs.declared.Function.{Function}
use Rattle.model.specs.declared.Function.TheVariants.{IsTrue, IsFalse, Less, Equal}
use Rattle.model.specs.declared.Guard.{Guard}
use Rattle.model.specs.Values.{function_by, function_number, no_operand, value_of, word_of}
use Rattle.model.specs.Bytes.{same, place_in}
use Rattle.model.specs.Modules.{each}
use Rattle.timing.specs.SlotLaws.{Each}
use Rattle.prescribed.specs.Tables.{type_of, argument_of, guard_row}
use Rattle.layout.specs.Rows.{rows}
use Rattle.layout.specs.Plain.{argument_cells, guard_cells}
use Rattle.layout.specs.Filling.{stored}
use Rattle.accepted.specs.Lists.{each-mapped}
use Rattle.refusals.specs.declared.Row.{Row}
use Rattle.refusals.specs.Draft as D
use Rattle.sheets.specs.declared.Acting.{Acting}
use Rattle.sheets.specs.Sheets.{cap, place_of, word_in, with_operand, function_cell, guard_row_of, guard_stored, guard_cell, guards_after}
use Rattle.sheets.specs.Held.{function_in, place_cell, word_cell, acting_of, guard_code, Fits}
use Rattle.sheets.specs.Pieces.{shorts, added, each_last, map_more}

-- ---- operands

word_back : (word : ℕ) → cap (of_z w32 (to_z w32 word)) ≡ cap word
word_back word = by (ltb word 2147483648) refl
  where
    by : (b : Bool) → ltb word 2147483648 ≡ b → cap (of_z w32 (sel b (pos word) (negsuc (4294967296 - suc word)))) ≡ cap word
    by true e = refl
    by false e = omega (arith, ltb-false word 2147483648 e)

place-told : (row : Row) → place_cell (D.operand_of row) ≡ place_of row
unfolding place_of
place-told row = by (eqb row.sort 0) (eqb row.typ 1)
  where
    by : (b t : Bool) → place_cell (cond b (O.Fixed (cond t (Flag (eqb row.value 1)) (Int (to_z w32 row.value)))) (O.Port row.value)) ≡ cond b (cond t 2 1) 0
    by true true = refl
    by true false = refl
    by false t = refl

word-told : (row : Row) → word_cell (D.operand_of row) ≡ word_in row
unfolding word_in
word-told row = by (eqb row.sort 0) (eqb row.typ 1) (eqb row.value 1)
  where
    by : (b t u : Bool) → word_cell (cond b (O.Fixed (cond t (Flag u) (Int (to_z w32 row.value)))) (O.Port row.value)) ≡ cond b (cond t (cond u 1 0) (cap row.value)) (cap row.value)
    by true true true = refl
    by true true false = refl
    by true false u = word_back row.value
    by false t u = refl

pub operand-kept : (doing : D.Doing) (row : Row) → with_operand (acting_of doing) (place_of row) (word_in row) ≡ acting_of (D.with_operand doing row)
unfolding with_operand
operand-kept doing row = rw (← place-told row, ← word-told row) (by doing.operands)
  where
    by : (operands : List Operand) → with_operand (acting_of (record { frequency = doing.frequency; function = doing.function; operands = operands; wanted = doing.wanted })) (place_cell (D.operand_of row)) (word_cell (D.operand_of row))
        ≡ acting_of (record { frequency = doing.frequency; function = doing.function; operands = operands ++ (D.operand_of row ∷ []); wanted = [] })
    by [] = refl
    by (a ∷ []) = refl
    by (a ∷ b ∷ rest) =
        let e : min (length (a ∷ b ∷ rest)) 2 ≡ 2 = omega arith in
        let f : min (length (a ∷ b ∷ (rest ++ (D.operand_of row ∷ [])))) 2 ≡ 2 = omega arith in
        rw (e, f) refl

-- ---- functions

pub function-kept : (number : ℕ) → function_cell number ≡ function_in (some (function_by number))
function-kept zero = refl
function-kept (suc zero) = refl
function-kept (suc (suc zero)) = refl
function-kept (suc (suc (suc zero))) = refl
function-kept (suc (suc (suc (suc number)))) = omega arith

-- ---- a guard's row

small-cap : (n : ℕ) → n ≤ 4294967295 → cap n ≡ n
small-cap n h = omega arith

operand-cells : (o : Operand) (rest : List ℕ) → Each (λ cell. cell ≤ 4294967295) (argument_cells (argument_of o) ++ rest) → argument_cells (argument_of o) ++ rest ≡ place_cell o ∷ word_cell o ∷ rest
operand-cells (O.Port number) rest h = ap (λ (n : ℕ). 0 ∷ n ∷ rest) (sym (small-cap number h.1.0))
operand-cells (O.Fixed value) rest h = ap (λ (n : ℕ). (type_of value + 1) ∷ n ∷ rest) (sym (small-cap (word_of value) h.1.0))

one-operand : (n : ℕ) (o : Operand) → Each (λ cell. cell ≤ 4294967295) (n ∷ 1 ∷ each argument_cells (argument_of o ∷ [])) → n ∷ 1 ∷ place_cell o ∷ word_cell o ∷ [] ≡ n ∷ 1 ∷ each argument_cells (argument_of o ∷ [])
one-operand n o h = ap (λ (l : List ℕ). n ∷ 1 ∷ l) (sym (operand-cells o [] h.1.1))

two_operands : (n : ℕ) (o p : Operand) → Each (λ cell. cell ≤ 4294967295) (n ∷ 2 ∷ each argument_cells (argument_of o ∷ argument_of p ∷ []))
    → n ∷ 2 ∷ place_cell o ∷ word_cell o ∷ place_cell p ∷ word_cell p ∷ [] ≡ n ∷ 2 ∷ each argument_cells (argument_of o ∷ argument_of p ∷ [])
two_operands n o p h =
    let r = argument_cells (argument_of p) ++ [] in
    ap (λ (l : List ℕ). n ∷ 2 ∷ place_cell o ∷ word_cell o ∷ l) (sym (operand-cells p [] (each_last (λ cell. cell ≤ 4294967295) (argument_cells (argument_of o)) r h.1.1)))
    ∙ ap (λ (l : List ℕ). n ∷ 2 ∷ l) (sym (operand-cells o r h.1.1))

row_told : (doing : D.Doing) (f : Function) (o p : Operand) → Each (λ cell. cell ≤ 4294967295) (guard_cells (guard_row (record { function = f; first = o; second = p })))
    → guard_row_of (record { frequency = cap doing.frequency; function = function_in (some f); operands = min (length doing.operands) 2; first_place = place_cell o; first_word = word_cell o; second_place = place_cell p; second_word = word_cell p })
    ≡ guard_cells (guard_row (record { function = f; first = o; second = p }))
unfolding guard_row_of place_in same
row_told doing IsTrue o p h = one-operand 0 o h
row_told doing IsFalse o p h = one-operand 1 o h
row_told doing Less o p h = two_operands 2 o p h
row_told doing Equal o p h = two_operands 3 o p h

-- ---- guards behind an activity

pub guards-after : (doing : D.Doing) (guards : List Guard) → guards_after (acting_of doing) (cap (length guards)) ≡ cap (length (guards ++ D.guard_of doing.function doing.operands))
unfolding guards_after
guards-after doing guards = by doing.function
  where
    by : (f : Option Function) → cond (eqb (function_in f) 0) (cap (length guards)) (cap (cap (length guards) + 1)) ≡ cap (length (guards ++ D.guard_of f doing.operands))
    by none = ap (λ (l : List Guard). cap (length l)) (sym (append-nil guards))
    by (some IsTrue) = omega (arith, length-append guards (D.guard_of (some IsTrue) doing.operands))
    by (some IsFalse) = omega (arith, length-append guards (D.guard_of (some IsFalse) doing.operands))
    by (some Less) = omega (arith, length-append guards (D.guard_of (some Less) doing.operands))
    by (some Equal) = omega (arith, length-append guards (D.guard_of (some Equal) doing.operands))

-- an activity's guard cell
pub guard_told : (doing : D.Doing) (before : ℕ) → guard_cell (acting_of doing) (cap before) ≡ cap (guard_code (D.guard_number doing.function before))
unfolding guard_cell
guard_told doing before = by doing.function
  where
    by : (f : Option Function) → cond (eqb (function_in f) 0) 0 (cap (cap before + 1)) ≡ cap (guard_code (D.guard_number f before))
    by none = refl
    by (some IsTrue) = omega arith
    by (some IsFalse) = omega arith
    by (some Less) = omega arith
    by (some Equal) = omega arith

pub guard-kept : (doing : D.Doing) (guards : List Guard) (l : List ℕ) → length (guards ++ D.guard_of doing.function doing.operands) ≤ 256
    → Each (λ g. Fits 6 (guard_cells (guard_row g))) (guards ++ D.guard_of doing.function doing.operands)
    → l ≡ rows 6 1536 guard_cells (map guard_row guards)
    → guard_stored (cap (length guards)) (acting_of doing) l ≡ rows 6 1536 guard_cells (map guard_row (guards ++ D.guard_of doing.function doing.operands))
unfolding guard_stored
guard-kept doing guards l few fit e = by doing.function refl few fit
  where
    o : Operand
    o = get_or doing.operands 0 no_operand

    p : Operand
    p = get_or doing.operands 1 no_operand

    known : (f : Function) → doing.function ≡ some f → length (guards ++ D.guard_of (some f) doing.operands) ≤ 256
        → Each (λ g. Fits 6 (guard_cells (guard_row g))) (guards ++ D.guard_of (some f) doing.operands)
        → stored l (cap (length guards) * 6) (guard_row_of (acting_of doing)) ≡ rows 6 1536 guard_cells (map guard_row (guards ++ D.guard_of (some f) doing.operands))
    known f q few fit =
        let g : Guard = record { function = f; first = o; second = p } in
        let n = length-append guards (g ∷ []) in
        let m = map_more guard_row guards g in
        let c : cap (length guards) ≡ length (map guard_row guards) = omega (arith, length-map guards guard_row) in
        let each-fit = rw m at (each-mapped (λ r. Fits 6 (guard_cells r)) guard_row (guards ++ (g ∷ [])) fit) in
        let room : length (map guard_row guards ++ (guard_row g ∷ [])) * 6 ≤ 1536 = omega (arith, length-append (map guard_row guards) (guard_row g ∷ []), length-map guards guard_row) in
        added 5 1536 guard_cells (map guard_row guards) (guard_row g) (shorts 6 guard_cells (map guard_row guards ++ (guard_row g ∷ [])) each-fit) room (cap (length guards)) e c
        (rw q (row_told doing f o p (each_last (λ r. Fits 6 (guard_cells (guard_row r))) guards (g ∷ []) fit).0.small))
        ∙ ap (rows 6 1536 guard_cells) (sym m)

    by : (f : Option Function) → doing.function ≡ f → length (guards ++ D.guard_of f doing.operands) ≤ 256 → Each (λ g. Fits 6 (guard_cells (guard_row g))) (guards ++ D.guard_of f doing.operands)
        → cond (eqb (function_in f) 0) l (stored l (cap (length guards) * 6) (guard_row_of (acting_of doing))) ≡ rows 6 1536 guard_cells (map guard_row (guards ++ D.guard_of f doing.operands))
    by none q few fit = e ∙ ap (λ (m : List Guard). rows 6 1536 guard_cells (map guard_row m)) (sym (append-nil guards))
    by (some IsTrue) q few fit = known IsTrue q few fit
    by (some IsFalse) q few fit = known IsFalse q few fit
    by (some Less) q few fit = known Less q few fit
    by (some Equal) q few fit = known Equal q few fit
