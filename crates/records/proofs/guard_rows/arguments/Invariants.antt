use mathlib.Core.List.{List}
use Prim.Native.Nat.{ℕ}
use Rattle.codec.specs.Readings.{got}
use Rattle.fields.specs.RunLaws as run
use Rattle.records.specs.Stores as to
use Rattle.file.specs.Code.{argument}
use Rattle.records.proofs.guard_rows.arguments.Given as goal

abbrev pub invariant-loop-k : goal.invariant-loop-k
invariant-loop-k l = run.LeftMany argument (to.store_argument l.place) l.many l.k (got l.initial.rows l.initial.file.rest.now) (got l.rows l.file.rest.now)
