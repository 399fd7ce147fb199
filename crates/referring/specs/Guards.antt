-- Guards: a row's judgment is the reader's test of the guard that stands there.
use Rattle.std.specs.Prelude.{ℕ, suc, ◌+◌, ◌*◌, ◌≤◌, ◌<◌, ◌≡◌, false, length}
use Rattle.std.proofs.Common.{add-zero, arith, sym, ap, ◌∙◌, ne_eqb}
use Rattle.std.proofs.Math.Path.{refl}
use mathlib.Core.List.{List, [], ◌∷◌, ◌++◌}
use Rattle.std.proofs.Math.ListN.{get_or}
use Rattle.model.specs.Bytes.{place_in}
use Rattle.model.specs.Values.{function_names}
use Rattle.file.specs.Tables.{Argument, port, fixed, GuardRow}
use Rattle.file.specs.Code.{guard}
use Rattle.file.specs.Parts.{all_in}
use Rattle.file.specs.References.{good_argument, argument_type, function_takes, good_guard}
use Rattle.layout.specs.Rows.{padded, rows}
use Rattle.layout.specs.Plain.{argument_cells, guard_cells}
use Rattle.layout.specs.Cells.{padded-cell, rows-cell}
use Rattle.referring.specs.Rows.{readable_in, operand_type_in, good_one_in, good_two_in, good_guard_in, good_guards_in}
use Rattle.referring.specs.Fits.{Listed, few-arguments, guard-width}
use Rattle.referring.specs.Every.{and-true, every-part}

-- what stands where no guard is
abbrev pub no_row : GuardRow
no_row = record { function = []; arguments = [] }

-- the cells behind an argument
pub cells-behind : (a : Argument) (rest : List ℕ) (j : ℕ) → get_or (argument_cells a ++ rest) (suc (suc j)) 0 ≡ get_or rest j 0
cells-behind (port number) rest j = refl
cells-behind (fixed type word) rest j = refl

none-taken : (function : ℕ) → false ≡ function_takes function []
unfolding function_takes
none-taken function = refl

module _ (roles types : List ℕ) (room : ℕ) where
  module _ (rest : List ℕ) where
    readable-is : (a : Argument) → readable_in (padded room roles) (get_or (argument_cells a ++ rest) 0 0) (get_or (argument_cells a ++ rest) 1 0) ≡ good_argument roles a
    unfolding readable_in
    readable-is (port number) = simp padded-cell
    readable-is (fixed type word) = rw (ne_eqb (type + 1) 0 (λ same. omega arith)) refl

    type-is : (a : Argument) → operand_type_in (padded room types) (get_or (argument_cells a ++ rest) 0 0) (get_or (argument_cells a ++ rest) 1 0) ≡ argument_type types a
    unfolding operand_type_in
    type-is (port number) = padded-cell room types number
    type-is (fixed type word) = rw (ne_eqb (type + 1) 0 (λ same. omega arith)) (omega arith)

  module _ (guards : List ℕ) (k : ℕ) where
    -- the row of guard k is a guard's
    pub record Row (g : GuardRow) : Type 0 where
      pub cell : (j : ℕ) → j < 6 → get_or guards (k * 6 + j) 0 ≡ get_or (guard_cells g) j 0

    row-function : {g : GuardRow} → Row g → get_or guards (k * 6) 0 ≡ place_in function_names 0 g.function
    row-function row = ap (λ (i : ℕ). get_or guards i 0) (sym (add-zero (k * 6))) ∙ row.cell 0 (omega arith)

    guard-row : (function : List ℕ) (arguments : List Argument) → length arguments ≤ 2 → Row (record { function = function; arguments = arguments })
        → good_guard_in (padded room roles) (padded room types) guards k ≡ good_guard roles types (record { function = function; arguments = arguments })
    unfolding good_guard_in good_guard good_one_in good_two_in all_in
    guard-row function [] few row = rw (row.cell 1 (omega arith)) (none-taken _)
    guard-row function (a ∷ []) few row =
        rw (row-function row, row.cell 1 (omega arith), row.cell 2 (omega arith), row.cell 3 (omega arith), readable-is [] a, type-is [] a, and-true) refl
    guard-row function (a ∷ b ∷ []) few row =
        let rest = argument_cells b ++ [] in
        rw (
          row-function row,
          row.cell 1 (omega arith),
          row.cell 2 (omega arith),
          row.cell 3 (omega arith),
          row.cell 4 (omega arith) ∙ cells-behind a rest 0,
          row.cell 5 (omega arith) ∙ cells-behind a rest 1,
          readable-is rest a,
          type-is rest a,
          readable-is [] b,
          type-is [] b,
          and-true,
        )
        refl
    guard-row function (a ∷ b ∷ c ∷ more) few row = absurd (omega arith)

  -- every row's judgment is the reader's test of its guard
  pub guards-agree : (most : ℕ) (gs : List GuardRow) → Listed guard most gs
      → (span : ℕ) → good_guards_in (padded room roles) (padded room types) (rows 6 span guard_cells gs) (length gs) ≡ all_in (good_guard roles types) gs
  unfolding good_guards_in
  guards-agree most gs listed span =
      every-part (good_guard roles types) no_row _ gs (λ k within.
      let g = get_or gs k no_row in
      guard-row (rows 6 span guard_cells gs) k g.function g.arguments (few-arguments g (listed.fine no_row k within)) (record {
        cell = λ j less. rows-cell 6 span guard_cells no_row gs (λ i inside. guard-width (get_or gs i no_row) (listed.fine no_row i inside)) k within j less;
      }))
