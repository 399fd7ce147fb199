use mathlib.Core.List.{List}
use Prim.Native.Nat.{ℕ}
use Rattle.codec.specs.Readings.{got}
use Rattle.fields.specs.RunLaws as run
use Rattle.records.specs.Stores as to
use Rattle.file.specs.Code.{driver}
use Rattle.records.proofs.driver_rows.drivers.Given as goal

abbrev pub invariant-loop-k : goal.invariant-loop-k
invariant-loop-k l = run.LeftMany driver to.store_driver l.count l.k (got l.initial.rows l.initial.file.rest.now) (got l.rows l.file.rest.now)
