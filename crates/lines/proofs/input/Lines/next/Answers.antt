use Rattle.std.proofs.Common.{refl}
use Rattle.lines.specs.InputsLaws.{is-line}
use Rattle.lines.proofs.input.Lines.next.Goals as goal

pub returns : goal.returns
returns g c =
    let left = c.find-step.new.self in
    let gives = c.find-step.ensures.gives c.found.result c.found.ensures in
    let line = is-line (g.R.Read.remaining c.args.input.now) (g.R.Read.remaining c.find-step.new.input) c.args.self.now left c.found.result gives in
    ((refl, λ _. tt, gives), record { line = line; answers = (left, gives); gives = tt })
