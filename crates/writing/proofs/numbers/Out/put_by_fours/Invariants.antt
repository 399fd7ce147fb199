use Rattle.writing.specs.Wrote.{Wrote}
use Rattle.std.proofs.Common.{take, ◌≡◌, ◌+◌, ◌*◌, length}
use Rattle.writing.proofs.numbers.Out.put_by_fours.Given as goal

abbrev pub invariant-loop-k : goal.invariant-loop-k
invariant-loop-k l = record { at : l.self.at ≡ l.fn.self.at + l.k * 4; room : length l.self.buffer.now ≡ length l.fn.self.buffer.now; wrote : Wrote l.fn.self (take (l.k * 4) l.bytes) l.self }

abbrev pub invariant-loop-j : goal.invariant-loop-j
invariant-loop-j l = record { at : l.self.at ≡ l.fn.self.at + l.first + l.j; room : length l.self.buffer.now ≡ length l.fn.self.buffer.now; wrote : Wrote l.fn.self (take (l.first + l.j) l.bytes) l.self }
