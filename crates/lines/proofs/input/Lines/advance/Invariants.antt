use Rattle.lines.specs.Inputs.{Going}
use Rattle.lines.proofs.input.Lines.advance.Given as goal

abbrev pub invariant-loop : goal.invariant-loop
invariant-loop g l = Going (g.R.Read.remaining l.fn.input) (g.R.Read.remaining l.input) l.fn.self l.self l.counter
