use mathlib.Core.List.{List}
use Prim.Native.Nat.{ℕ}
use Rattle.codec.specs.Readings.{got}
use Rattle.fields.specs.RunLaws as run
use Rattle.records.specs.Stores as to
use Rattle.file.specs.Code.{mode}
use Rattle.records.proofs.mode_rows.modes.Given as goal

abbrev pub invariant-loop-k : goal.invariant-loop-k
invariant-loop-k l = run.LeftMany {S = List ℕ × List ℕ} mode to.store_mode l.count l.k (got (l.initial.names, l.initial.rows) l.initial.file.rest.now) (got (l.names, l.rows) l.file.rest.now)
