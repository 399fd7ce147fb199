use mathlib.Core.Path.{◌≡◌}
use mathlib.Core.List.{List}
use Prim.Native.Nat.{ℕ}
use lib.ListN.{length}
use Rattle.codec.specs.Readings.{got}
use Rattle.fields.specs.RunLaws as run
use Rattle.declarations.specs.Stores as to
use Rattle.file.specs.Records.{sensor}
use Rattle.declarations.proofs.sensor_rows.sensors.Given as goal

abbrev pub invariant-loop-k : goal.invariant-loop-k
invariant-loop-k l = run.LeftMany {S = List ℕ × List ℕ} sensor to.store_sensor l.count l.k (got (l.initial.names, l.initial.types) l.initial.file.rest.now) (got (l.names, l.types) l.file.rest.now)
