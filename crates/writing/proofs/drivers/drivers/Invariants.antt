use Rattle.writing.specs.Wrote.{Wrote}
use Rattle.writing.specs.Puts.{parts}
use Rattle.writing.specs.Cells.{driver_at}
use Rattle.std.proofs.Common.{◌*◌}
use Rattle.writing.proofs.drivers.drivers.Given as goal

abbrev pub invariant-loop-k : goal.invariant-loop-k
invariant-loop-k l = Wrote l.initial.out (parts (λ j. driver_at l.t.driver_rows.now (j * 12)) l.k) l.out
