use Rattle.writing.specs.Wrote.{Wrote}
use Rattle.writing.specs.Puts.{parts}
use Rattle.writing.specs.Cells.{sensor_in}
use Rattle.writing.proofs.ports.sensors.Given as goal

abbrev pub invariant-loop-k : goal.invariant-loop-k
invariant-loop-k l = Wrote l.initial.out (parts (sensor_in l.t.sensor_names.now l.t.types.now) l.k) l.out
