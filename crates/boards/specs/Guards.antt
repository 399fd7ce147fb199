-- The guards that the machine takes from the rows are the table's.
use Rattle.std.specs.Prelude.{ℕ, zero, suc, ◌+◌, ◌*◌, ◌≤◌, ◌<◌, ◌≡◌, true, length, get_or}
use Rattle.std.proofs.Common.{mod-eq_of_lt, arith, sym, ap, ◌∙◌, ltb-true}
use Rattle.std.proofs.Math.Path.{refl}
use mathlib.Core.List.{List, [], ◌∷◌, ◌++◌, map}
use Rattle.std.proofs.lemmas.List.{length-map}
use Rattle.codec.proofs.Numbers.{be-below}
use Rattle.codec.proofs.Sequences.{dep-ok}
use Rattle.codec.proofs.Views.{check-ok, shape-ok}
use Rattle.model.specs.Rooms.{guard_room}
use Rattle.model.specs.Bytes.{place_in}
use Rattle.model.specs.Values.{function_names, no_guard}
use Rattle.model.specs.declared.Operand.TheVariants.{Port}
use Rattle.file.specs.Tables.{Argument, port, fixed, GuardRow}
use Rattle.file.specs.Parts.{type}
use Rattle.file.specs.Code.{of_port, of_value, argument_rest, argument, guard}
use Rattle.machine.specs.Boards.{padded, operand_of, guard_of}
use Rattle.guards.specs.Rows.{operand_by, guard_at, guards_by}
use Rattle.layout.specs.Rows.{rows}
use Rattle.layout.specs.Plain.{argument_cells, guard_cells}
use Rattle.layout.specs.Cells.{rows-cell, rows-first}
use Rattle.referring.specs.Fits.{Listed, guard-arguments, guard-width}
use Rattle.referring.specs.Guards.{no_row, cells-behind}
use Rattle.boards.specs.Lists.{tab-padded, map_at, past-cell, past_first}

-- ---- operands

port-below : (number : ℕ) → argument.ok (port number) ≡ true → number < 65536
unfolding argument argument_rest
port-below number h = be-below 2 number (dep-ok _ _ _ of_port number (shape-ok _ _ _ (port number) h)).1

type-below : (kind word : ℕ) → argument.ok (fixed kind word) ≡ true → kind < 2
unfolding argument argument_rest type
type-below kind word h =
    let value = (dep-ok _ _ _ of_value (kind, word) (shape-ok _ _ _ (fixed kind word) h)).1 in
    ltb-true _ _ (check-ok _ _ _ kind (dep-ok _ _ _ kind word value).0).0

fixed-is : (kind word : ℕ) → kind < 2 → operand_by (kind + 1) word ≡ operand_of (fixed kind word)
fixed-is zero word less = refl
fixed-is (suc zero) word less = refl
fixed-is (suc (suc kind)) word less = absurd (omega arith)

operand-is : (a : Argument) (rest : List ℕ) → argument.ok a ≡ true → operand_by (get_or (argument_cells a ++ rest) 0 0) (get_or (argument_cells a ++ rest) 1 0) ≡ operand_of a
operand-is (port number) rest h = ap Port (mod-eq_of_lt (port-below number h))
operand-is (fixed kind word) rest h = fixed-is kind word (type-below kind word h)

-- ---- guards

module _ (array : List ℕ) (k : ℕ) where
  guard-is : (function : List ℕ) (arguments : List Argument) → Listed argument 2 arguments → get_or array (k * 6) 0 ≡ place_in function_names 0 function
      → ((j : ℕ) → j < 6 → get_or array (k * 6 + j) 0 ≡ get_or (guard_cells (record { function = function; arguments = arguments })) j 0)
      → guard_at array k ≡ guard_of (record { function = function; arguments = arguments })
  unfolding guard_at
  guard-is function [] listed first cell = rw (first, cell 2 (omega arith), cell 3 (omega arith), cell 4 (omega arith), cell 5 (omega arith)) refl
  guard-is function (a ∷ []) listed first cell =
      rw (
        first,
        cell 2 (omega arith),
        cell 3 (omega arith),
        cell 4 (omega arith) ∙ cells-behind a [] 0,
        cell 5 (omega arith) ∙ cells-behind a [] 1,
        operand-is a [] (listed.fine a 0 (omega arith)),
      )
      refl
  guard-is function (a ∷ b ∷ []) listed first cell =
      let rest = argument_cells b ++ [] in
      rw (
        first,
        cell 2 (omega arith),
        cell 3 (omega arith),
        cell 4 (omega arith) ∙ cells-behind a rest 0,
        cell 5 (omega arith) ∙ cells-behind a rest 1,
        operand-is a rest (listed.fine a 0 (omega arith)),
        operand-is b [] (listed.fine a 1 (omega arith)),
      )
      refl
  guard-is function (a ∷ b ∷ c ∷ more) listed first cell = absurd (omega (arith, listed.few))

module _ (size : ℕ) (gs : List GuardRow) (listed : Listed guard guard_room gs) where
  abbrev array : List ℕ
  array = rows 6 size guard_cells gs

  wide : (i : ℕ) → i < length gs → length (guard_cells (get_or gs i no_row)) ≤ 6
  wide i within = guard-width (get_or gs i no_row) (listed.fine no_row i within)

  here : (k : ℕ) → k < length gs → guard_at array k ≡ guard_of (get_or gs k no_row)
  here k within =
      let g = get_or gs k no_row in
      guard-is array k g.function g.arguments (guard-arguments g (listed.fine no_row k within)) (rows-first 6 size guard_cells no_row gs wide k within (omega arith))
      (rows-cell 6 size guard_cells no_row gs wide k within)

  past : (k : ℕ) → length gs ≤ k → guard_at array k ≡ no_guard
  unfolding guard_at
  past k beyond =
      let none = past-cell 6 size guard_cells no_row gs wide k beyond in
      rw (past_first 6 size guard_cells no_row gs wide k beyond, none 2, none 3, none 4, none 5) refl

  pub guards-are : guards_by array ≡ padded guard_room no_guard (map guard_of gs)
  guards-are =
      let long = length-map gs guard_of in
      tab-padded (guard_at array) guard_room no_guard (map guard_of gs) (omega (arith, listed.few))
      (λ k within. let inside : k < length gs = omega arith in here k inside ∙ sym (map_at guard_of gs no_row no_guard k inside))
      (λ k beyond. past k (omega arith))
