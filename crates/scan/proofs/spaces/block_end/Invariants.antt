use Prim.Native.Nat.{ℕ, ◌-◌}
use mathlib.Core.Path.{◌≡◌}
use Rattle.text.specs.Spaces.{block_at}
use Rattle.scan.proofs.spaces.block_end.Given as goal

abbrev pub invariant-loop-i : goal.invariant-loop-i
invariant-loop-i l = (from : ℕ) → block_at l.s l.at from ≡ block_at l.s (l.i - 1) from
