use Prim.Native.Nat.{ℕ, min}
use mathlib.Core.Path.{◌≡◌}
use lib.ListN.{drop}
use lib.Seq.{slice}
use Rattle.text.specs.Words.{value, value_from}
use Rattle.scan.proofs.words.value.Given as goal

abbrev pub invariant-loop-b : goal.invariant-loop-b
invariant-loop-b l = (a : ℕ) × (l.n ≡ min a 4294967296) × (value (slice l.start l.end l.s) ≡ value_from a (drop l.b-index l.b-items))
