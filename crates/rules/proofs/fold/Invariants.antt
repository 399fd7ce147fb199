use Rattle.std.proofs.Common.{◌≡◌, ◌+◌, ◌-◌, length}
use Rattle.rules.specs.Going.{Going}
use Rattle.kept.specs.Kept.{Kept}
use Rattle.kept.specs.Rows.{state_of}
use Rattle.rules.proofs.fold.Given as goal

abbrev pub invariant-loop-at : goal.invariant-loop-at
invariant-loop-at l = (length l.cells ≡ length l.initial.cells) × (length l.rates ≡ length l.initial.rates) × (length l.tasks ≡ length l.initial.tasks) × (length l.aims ≡ length l.initial.aims) × (Kept l.s l.memo → Going l.s (state_of l.state) l.at l.cells l.turn.rows l.turn.known l.rates l.tasks l.aims)

abbrev pub decreases-loop-at : goal.decreases-loop-at
decreases-loop-at l = length l.s + 1 - l.at
