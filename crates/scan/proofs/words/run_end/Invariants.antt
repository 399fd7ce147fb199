use mathlib.Core.Path.{◌≡◌}
use mathlib.Core.Bool.{Bool}
use Prim.Native.Nat.{ℕ}
use Rattle.text.specs.Words.{munch_at}
use Rattle.scan.specs.Runs.{Tells}
use Rattle.scan.proofs.words.run_end.Given as goal

abbrev pub invariant-loop-i : goal.invariant-loop-i
invariant-loop-i g l = (test : ℕ → Bool) → Tells test (goal.F-post g l.takes) → munch_at test l.s l.at ≡ munch_at test l.s l.i
