use Rattle.lines.specs.InputsLaws.{going-gives}
use Rattle.lines.proofs.input.Lines.find.Goals as goal

pub returns-in-More-clause-gives : goal.returns-in-More-clause-gives
returns-in-More-clause-gives g c = λ found shown. going-gives found c.in-More.ensures (c.last.ensures.gives _ found shown)
