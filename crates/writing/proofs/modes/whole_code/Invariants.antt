use Rattle.writing.specs.Wrote.{Wrote}
use Rattle.writing.specs.Puts.{parts}
use Rattle.writing.specs.Cells.{instruction_at}
use Rattle.std.proofs.Common.{◌≡◌, ◌+◌, ◌*◌, length}
use Rattle.writing.proofs.modes.whole_code.Given as goal

abbrev pub invariant-loop-k : goal.invariant-loop-k
invariant-loop-k l = record { at : l.out.at ≡ l.initial.out.at + l.k * 9; room : length l.out.buffer.now ≡ length l.initial.out.buffer.now; wrote : Wrote l.initial.out (parts (λ j. instruction_at l.rows (j * 3)) l.k) l.out }
