use Rattle.writing.specs.Wrote.{Wrote}
use Rattle.std.proofs.Common.{take}
use Rattle.writing.proofs.numbers.Out.put_singly.Given as goal

abbrev pub invariant-loop-k : goal.invariant-loop-k
invariant-loop-k l = Wrote l.initial.self (take l.k l.bytes) l.self
