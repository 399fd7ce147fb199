-- Laws: what lies aside means something only while its task's finished bit is set: a reaction is the same whatever stands aside for tasks that are not finished.
use Prim.Native.Nat.{ℕ, ◌*◌}
use Rattle.std.specs.Prelude.{◌≡◌, true}
use mathlib.Core.List.{List}
use Rattle.model.specs.Rooms.{port_room}
use Rattle.machine.specs.Words.{has}
use Rattle.machine.specs.Boards.{Board}
use Rattle.machine.specs.Store.{part, lot_of}

-- the results of a task that lie aside
abbrev pub results_of : Board → List ℕ → ℕ → List ℕ
results_of b aside task = part aside (task * port_room) (lot_of b aside task).results

module _ (b : Board) (aside other : List ℕ) where
  -- The same results of every task that is finished by this word.
  abbrev pub SameFinished : ℕ → Type 0
  SameFinished finished = (task : ℕ) → has finished task ≡ true → results_of b other task ≡ results_of b aside task
