-- Where the machine finds a task's ports: by the rows as by the table.
use Rattle.std.specs.Prelude.{ℕ, zero, suc, ◌+◌, ◌≤◌, ◌<◌, ◌≡◌, refl, List, [], ◌∷◌, length, get_or}
use Rattle.std.proofs.Common.{arith, sym, ap, ◌∙◌}
use Rattle.model.specs.Rooms.{task_room}
use Rattle.model.specs.Modules.{Task, no_task, task_ports, inputs_at}
use Rattle.machine.specs.Boards.{padded, Lot, no_lot, lots_from}
use Rattle.steps.specs.Rows.{lot_at, lots_by}
use Rattle.layout.specs.Plain.{task_rows}
use Rattle.layout.specs.Cells.{length-task-rows}
use Rattle.referring.specs.Drivers.{task_array, row-width, task-cell, task-first}
use Rattle.boards.specs.Lists.{tab-padded, past-cell, past_first}

-- the lot of a task whose first port is `at`
abbrev lot_of : ℕ → Task → Lot
lot_of at task = record { inputs = at; outputs = at + length task.inputs; results = length task.outputs }

lots-long : (at : ℕ) (tasks : List Task) → length (lots_from at tasks) ≡ length tasks
lots-long at [] = refl
lots-long at (task ∷ tasks) = ap suc (lots-long (at + task_ports task) tasks)

lot-here : (at : ℕ) (tasks : List Task) (k : ℕ) → k < length tasks → get_or (lots_from at tasks) k no_lot ≡ lot_of (inputs_at at tasks k) (get_or tasks k no_task)
lot-here at [] k within = absurd (omega arith)
lot-here at (task ∷ tasks) zero within = refl
lot-here at (task ∷ tasks) (suc k) within = lot-here (at + task_ports task) tasks k (omega arith)

module _ (at size : ℕ) (tasks : List Task) (few : length tasks ≤ task_room) where
  here : (k : ℕ) → k < length tasks → lot_at (task_array at size tasks) k ≡ lot_of (inputs_at at tasks k) (get_or tasks k no_task)
  here k within =
      rw (task-first at size tasks k within, task-cell at size tasks k 2 within (omega arith), task-cell at size tasks k 3 within (omega arith)) refl

  past : (k : ℕ) → length tasks ≤ k → lot_at (task_array at size tasks) k ≡ no_lot
  past k beyond =
      let long = length-task-rows at tasks in
      let none = past-cell 4 size (λ cells. cells) [] (task_rows at tasks) (row-width at size tasks) k (omega arith) in
      rw (past_first 4 size (λ cells. cells) [] (task_rows at tasks) (row-width at size tasks) k (omega arith), none 2, none 3) refl

  pub lots-are : lots_by (task_array at size tasks) ≡ padded task_room no_lot (lots_from at tasks)
  lots-are =
      let long = lots-long at tasks in
      tab-padded (lot_at (task_array at size tasks)) task_room no_lot (lots_from at tasks) (omega arith)
      (λ k within. let inside : k < length tasks = omega arith in here k inside ∙ sym (lot-here at tasks k inside)) (λ k beyond. past k (omega arith))
