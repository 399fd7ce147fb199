use Rattle.writing.specs.Wrote.{Wrote}
use Rattle.writing.specs.Puts.{parts}
use Rattle.writing.specs.Cells.{guard_at}
use Rattle.std.proofs.Common.{◌*◌}
use Rattle.writing.proofs.guards.guards.Given as goal

abbrev pub invariant-loop-k : goal.invariant-loop-k
invariant-loop-k l = Wrote l.initial.out (parts (λ j. guard_at l.t.guard_rows.now (j * 6)) l.k) l.out
