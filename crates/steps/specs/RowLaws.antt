-- What stands in a table's rows, by number: within the room its row, past it what does nothing.
use Rattle.std.specs.Prelude.{ℕ, ◌+◌, ◌*◌, ◌≤◌, ◌<◌, ◌≡◌, refl, Bool, true, false, cond, List, get_or, ltb}
use Rattle.std.proofs.Common.{add-zero, ap, ◌∙◌, ltb-true, ltb-false}
use Rattle.model.specs.Instructions.{no_driver}
use Rattle.machine.specs.Boards.{Lot, no_lot}
use Rattle.guards.specs.Tabs.{within-tab, past-tab}
use Rattle.steps.specs.Rows.{driver_at, driver_in, lot_at, lots_by, task_cell}

module _ (tasks : List ℕ) (task : ℕ) where
  lot-is : (field : Lot → ℕ) (cell : ℕ) → field (lot_at tasks task) ≡ get_or tasks (task * 4 + cell) 0 → field no_lot ≡ 0
      → field (get_or (lots_by tasks) task no_lot) ≡ task_cell tasks task cell
  lot-is field cell here none = go (ltb task 32) refl
    where
      go : (within : Bool) → ltb task 32 ≡ within → field (get_or (lots_by tasks) task no_lot) ≡ cond within (get_or tasks (task * 4 + cell) 0) 0
      go true within = ap field (within-tab (lot_at tasks) 32 task no_lot (ltb-true task 32 within)) ∙ here
      go false past = ap field (past-tab (lot_at tasks) 32 task no_lot (ltb-false task 32 past)) ∙ none

  pub lot-inputs : (get_or (lots_by tasks) task no_lot).inputs ≡ task_cell tasks task 0
  lot-inputs = lot-is (λ lot. lot.inputs) 0 (rw add-zero refl) refl

  pub lot-outputs : (get_or (lots_by tasks) task no_lot).outputs ≡ task_cell tasks task 2
  lot-outputs = lot-is (λ lot. lot.outputs) 2 refl refl

  pub lot-results : (get_or (lots_by tasks) task no_lot).results ≡ task_cell tasks task 3
  lot-results = lot-is (λ lot. lot.results) 3 refl refl

module _ (drivers : List ℕ) (driver : ℕ) where
  pub driver-within : driver < 288 → driver_in drivers driver ≡ driver_at drivers driver
  driver-within within = within-tab (driver_at drivers) 288 driver no_driver within

  pub driver-past : 288 ≤ driver → driver_in drivers driver ≡ no_driver
  driver-past past = past-tab (driver_at drivers) 288 driver no_driver past
