use Rattle.std.proofs.Common.{◌≡◌, ◌+◌, ◌-◌, ◌≤◌, length}
use Rattle.text.specs.Items.{items_from, items_of}
use Rattle.kept.specs.Rows.{state_of}
use Rattle.kept.specs.Kept.{Kept}
use Rattle.names.specs.Index.{Indexed}
use Rattle.ports.specs.Boards.{board_in, SameArrays}
use Rattle.build.specs.Walks.{board_run}
use Rattle.build.proofs.declarations.walk.Given as goal

abbrev pub invariant-loop-at : goal.invariant-loop-at
invariant-loop-at l = record {
  few : l.n ≤ l.at;
  rows : l.k ≤ l.at;
  run :
      Kept l.s l.memo → Indexed l.s l.cells
      → (l.at ≤ length l.s) × (board_run l.s l.cells l.n (items_from l.s (state_of l.state) l.at) (board_in l.arrays) ≡ board_run l.s l.cells 0 (items_of l.s) (board_in l.initial.arrays));
  same : SameArrays l.arrays l.initial.arrays;
}

abbrev pub decreases-loop-at : goal.decreases-loop-at
decreases-loop-at l = length l.s + 1 - l.at
