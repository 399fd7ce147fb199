use mathlib.Core.List.{List}
use Prim.Native.Nat.{ℕ}
use Rattle.codec.specs.Readings.{got}
use Rattle.fields.specs.RunLaws as run
use Rattle.records.specs.Stores as to
use Rattle.codec.specs.Numbers.{be}
use Rattle.records.proofs.driver_rows.sources.Given as goal

abbrev pub invariant-loop-k : goal.invariant-loop-k
invariant-loop-k l = run.LeftMany (be 2) (to.store_source l.place) l.many l.k (got l.initial.rows l.initial.file.rest.now) (got l.rows l.file.rest.now)
