use Rattle.writing.specs.Wrote.{Wrote}
use Rattle.writing.specs.Puts.{parts}
use Rattle.writing.specs.Cells.{cell, argument_in}
use Rattle.std.proofs.Common.{◌+◌, ◌*◌}
use Rattle.writing.proofs.guards.guard.Given as goal

abbrev pub invariant-loop-k : goal.invariant-loop-k
invariant-loop-k l = Wrote l.initial.out (parts (λ j. argument_in (cell l.t.guard_rows.now (l.row + 2 + 2 * j)) (cell l.t.guard_rows.now (l.row + 3 + 2 * j))) l.k) l.out
