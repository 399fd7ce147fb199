use Rattle.writing.specs.Wrote.{Wrote}
use Rattle.writing.specs.Puts.{parts}
use Rattle.writing.specs.Cells.{instruction_at}
use Rattle.std.proofs.Common.{◌*◌}
use Rattle.writing.proofs.modes.cut_code.Given as goal

abbrev pub invariant-loop-k : goal.invariant-loop-k
invariant-loop-k l = Wrote l.initial.out (parts (λ j. instruction_at l.t.code.now (j * 3)) l.k) l.out
