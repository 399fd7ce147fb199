use Prim.Native.Nat.{◌+◌, ◌-◌, ◌≤◌}
use lib.ListN.{length}
use Rattle.lines.specs.ValuesLaws.{pieces_at, Filling}
use Rattle.lines.proofs.values.fill.Given as goal

abbrev pub invariant-loop-at : goal.invariant-loop-at
invariant-loop-at l = (l.at ≤ length l.word + 1) × (l.count ≤ l.at) × Filling l.word l.initial.types l.initial.words (pieces_at l.word l.at) l.types l.words l.count

abbrev pub decreases-loop-at : goal.decreases-loop-at
decreases-loop-at l = length l.word + 1 - l.at
