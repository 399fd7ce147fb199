use Rattle.writing.specs.Wrote.{Wrote}
use Rattle.writing.specs.Puts.{parts}
use Rattle.writing.specs.Cells.{cell, pair_of}
use Rattle.std.proofs.Common.{◌+◌}
use Rattle.writing.proofs.drivers.sources.Given as goal

abbrev pub invariant-loop-k : goal.invariant-loop-k
invariant-loop-k l = Wrote l.initial.out (parts (λ j. pair_of (cell l.t.driver_rows.now (l.from + j))) l.k) l.out
