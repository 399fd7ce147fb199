use Rattle.writing.specs.Wrote.{Wrote}
use Rattle.writing.specs.Puts.{parts}
use Rattle.writing.specs.Cells.{cell, byte_of}
use Rattle.std.proofs.Common.{◌+◌}
use Rattle.writing.proofs.tasks.inputs.Given as goal

abbrev pub invariant-loop-k : goal.invariant-loop-k
invariant-loop-k l = Wrote l.initial.out (parts (λ j. byte_of (cell l.t.types.now (l.from + j))) l.k) l.out
