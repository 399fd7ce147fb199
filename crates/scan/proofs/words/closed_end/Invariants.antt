use Prim.Native.Nat.{◌-◌, ◌≤◌, ◌<◌}
use mathlib.Core.Path.{◌≡◌}
use lib.ListN.{length}
use Rattle.text.specs.Words.{word_byte, munch_at}
use Rattle.scan.proofs.words.closed_end.Given as goal

abbrev pub invariant-loop-i : goal.invariant-loop-i
invariant-loop-i g l = (l.at ≤ l.i) × (l.i < length l.s) × (munch_at word_byte l.s l.at ≡ munch_at word_byte l.s l.i)

abbrev pub decreases-loop-i : goal.decreases-loop-i
decreases-loop-i g l = length l.s - l.i
