use Rattle.writing.specs.Wrote.{Wrote}
use Rattle.writing.specs.Puts.{parts}
use Rattle.writing.specs.Cells.{output_in}
use Rattle.writing.proofs.tasks.outputs.Given as goal

abbrev pub invariant-loop-k : goal.invariant-loop-k
invariant-loop-k l = Wrote l.initial.out (parts (output_in l.t.output_names.now l.t.types.now l.t.starts.now l.row l.from) l.k) l.out
