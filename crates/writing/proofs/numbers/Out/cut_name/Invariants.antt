use Rattle.writing.specs.Wrote.{Wrote}
use Rattle.writing.specs.Cells.{letters_in}
use Rattle.writing.proofs.numbers.Out.cut_name.Given as goal

abbrev pub invariant-loop-k : goal.invariant-loop-k
invariant-loop-k l = Wrote l.initial.self (letters_in l.names l.first l.k) l.self
