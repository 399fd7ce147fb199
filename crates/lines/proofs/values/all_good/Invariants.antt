use Prim.Native.Nat.{◌+◌, ◌-◌, ◌≤◌}
use mathlib.Core.Path.{◌≡◌}
use lib.ListN.{length}
use Rattle.lines.specs.Values.{pieces, all_values}
use Rattle.lines.specs.ValuesLaws.{pieces_at}
use Rattle.lines.proofs.values.all_good.Given as goal

abbrev pub invariant-loop-at : goal.invariant-loop-at
invariant-loop-at l = (l.at ≤ length l.word + 1) × (all_values (pieces l.word) ≡ all_values (pieces_at l.word l.at))

abbrev pub decreases-loop-at : goal.decreases-loop-at
decreases-loop-at l = length l.word + 1 - l.at
