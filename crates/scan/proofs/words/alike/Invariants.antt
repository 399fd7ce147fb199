use mathlib.Core.Path.{◌≡◌}
use Prim.Native.Nat.{◌≤◌}
use lib.ListN.{drop, length}
use Rattle.model.specs.Bytes.{same}
use Rattle.scan.proofs.words.alike.Given as goal

abbrev pub invariant-loop-j : goal.invariant-loop-j
invariant-loop-j l = (l.j ≤ length l.word) × (same l.word l.other ≡ same (drop l.j l.word) (drop l.j l.other))
