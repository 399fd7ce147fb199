use Rattle.std.proofs.Common.{◌≡◌, length}
use Rattle.emit.proofs.Marks.{Marked}
use Rattle.emit.proofs.slots.Marks.of_first.Given as goal

abbrev pub invariant-loop-frequency : goal.invariant-loop-frequency
invariant-loop-frequency l = record { marked : Marked l.period l.t l.frequency l.marks; five : length l.marks ≡ 5 }
