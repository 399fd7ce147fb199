use Prim.Native.Nat.{ℕ}
use mathlib.Core.List.{List}
use Rattle.kept.specs.Kept.{Kept}
use Rattle.kept.specs.Skips.{Skipped}
use Rattle.kept.proofs.skipping.to_mode.Given as goal

abbrev pub invariant-loop-item : goal.invariant-loop-item
invariant-loop-item l = ((s : List ℕ) → Kept s l.memo → Skipped s l.state l.at l.stop.state l.stop.at)
