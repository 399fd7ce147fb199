use Prim.Native.Nat.{◌≤◌, max}
use mathlib.Core.Path.{◌≡◌}
use lib.ListN.{length}
use Rattle.text.specs.Spaces.{spaces_at}
use Rattle.scan.proofs.spaces.first.Given as goal

abbrev pub invariant-loop-i : goal.invariant-loop-i
invariant-loop-i l = (spaces_at l.s l.at ≡ spaces_at l.s l.i) × (l.i ≤ max l.at (length l.s))
