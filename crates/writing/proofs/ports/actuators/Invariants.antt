use Rattle.writing.specs.Wrote.{Wrote}
use Rattle.writing.specs.Puts.{parts}
use Rattle.writing.specs.Cells.{actuator_in}
use Rattle.writing.proofs.ports.actuators.Given as goal

abbrev pub invariant-loop-k : goal.invariant-loop-k
invariant-loop-k l = Wrote l.initial.out (parts (actuator_in l.t.actuator_names.now l.t.types.now l.t.starts.now l.t.counts.sensors) l.k) l.out
