-- The drivers that the machine takes from the rows are the table's.
use Rattle.std.specs.Prelude.{ℕ, suc, ◌+◌, ◌*◌, ◌≤◌, ◌<◌, ◌≡◌, refl, List, [], ◌∷◌, length, get_or}
use Rattle.std.proofs.Common.{add-zero, arith, sym, ap, ap₂, ◌∙◌}
use Rattle.model.specs.Rooms.{driver_room}
use Rattle.model.specs.Instructions.{Driver, updates, releases, terminates, no_driver}
use Rattle.file.specs.Code.{driver}
use Rattle.machine.specs.Boards.{padded}
use Rattle.machine.specs.Store.{part}
use Rattle.steps.specs.Rows.{driver_at, drivers_by}
use Rattle.layout.specs.Rows.{rows}
use Rattle.layout.specs.Plain.{driver_cells}
use Rattle.layout.specs.Cells.{rows-cell, rows-first}
use Rattle.referring.specs.Fits.{Listed, few-sources, driver-width}
use Rattle.boards.specs.Lists.{tab-padded, past-cell, past_first}

-- a part of an array that holds a list
part-list : (l : List ℕ) (at : ℕ) (xs : List ℕ) → ((j : ℕ) → j < length xs → get_or l (at + j) 0 ≡ get_or xs j 0) → part l at (length xs) ≡ xs
part-list l at [] same = refl
part-list l at (x ∷ xs) same =
    ap₂ ◌∷◌ (ap (λ (i : ℕ). get_or l i 0) (sym (add-zero at)) ∙ same 0 (omega arith))
    (part-list l (at + 1) xs (λ j less. let next : at + 1 + j ≡ at + suc j = omega arith in ap (λ (i : ℕ). get_or l i 0) next ∙ same (suc j) (omega arith)))

module _ (array : List ℕ) (k : ℕ) where
  driver-is : (d : Driver) → ((task : ℕ) (sources : List ℕ) → d ≡ releases task sources → length sources ≤ 8) → get_or array (k * 12) 0 ≡ get_or (driver_cells d) 0 0
      → ((j : ℕ) → j < 12 → get_or array (k * 12 + j) 0 ≡ get_or (driver_cells d) j 0) → driver_at array k ≡ d
  driver-is (updates source target) few tag cell = rw (tag, cell 1 (omega arith), cell 3 (omega arith)) refl
  driver-is (releases task sources) few tag cell =
      let most = few task sources refl in
      let same : part array (k * 12 + 3) (length sources) ≡ sources =
      part-list array (k * 12 + 3) sources (λ j less.
      let place : k * 12 + 3 + j ≡ k * 12 + suc (suc (suc j)) = omega arith in
      ap (λ (i : ℕ). get_or array i 0) place ∙ cell (suc (suc (suc j))) (omega arith)) in
      rw (tag, cell 1 (omega arith), cell 2 (omega arith)) (ap (releases task) same)
  driver-is (terminates task) few tag cell = rw (tag, cell 1 (omega arith)) refl

module _ (size : ℕ) (ds : List Driver) (listed : Listed driver driver_room ds) where
  abbrev array : List ℕ
  array = rows 12 size driver_cells ds

  wide : (i : ℕ) → i < length ds → length (driver_cells (get_or ds i no_driver)) ≤ 12
  wide i within = driver-width (get_or ds i no_driver) (listed.fine no_driver i within)

  few : (k : ℕ) → k < length ds → (task : ℕ) (sources : List ℕ) → get_or ds k no_driver ≡ releases task sources → length sources ≤ 8
  few k within task sources is = few-sources task sources (rw is at (listed.fine no_driver k within))

  past : (k : ℕ) → length ds ≤ k → driver_at array k ≡ no_driver
  past k beyond = rw (past_first 12 size driver_cells no_driver ds wide k beyond, past-cell 12 size driver_cells no_driver ds wide k beyond 3, past-cell 12 size driver_cells no_driver ds wide k beyond 1) refl

  pub drivers-are : drivers_by array ≡ padded driver_room no_driver ds
  drivers-are =
      tab-padded (driver_at array) driver_room no_driver ds listed.few
      (λ k within. driver-is array k (get_or ds k no_driver) (few k within) (rows-first 12 size driver_cells no_driver ds wide k within (omega arith)) (rows-cell 12 size driver_cells no_driver ds wide k within))
      past
