use Rattle.std.proofs.Common.{◌≡◌, ◌+◌, ◌<◌, ◌∷◌, ◌++◌, length, ap, sym, ◌∙◌, arith}
use Rattle.std.specs.Prelude.{slice_range}
use Rattle.lines.specs.Inputs.{held}
use Rattle.lines.specs.InputsLaws.{unbroken-none, line-at, looks-line}
use Rattle.lines.proofs.input.Lines.step.Goals as goal

pub more-requires : goal.more-requires
more-requires g c = unbroken-none _ (sym c.first_end.ensures ∙ c.in-None.is)

pub returns-in-Some-clause-looks : goal.returns-in-Some-clause-looks
returns-in-Some-clause-looks g c =
    let old = c.args.self.now in
    let end = old.from + c.in-Some.size in
    let line = line-at old.buffer.now old.from old.to c.in-Some.size (omega arith) (omega arith) (sym c.first_end.ensures ∙ c.in-Some.is) in
    let then = c.unless_over.ensures in
    let room : end < length c.unless_over.new.self.buffer.now = omega (arith, line.0, ap length then.same) in
    let whole : held old ≡ slice_range old.buffer.now old.from end ++ 10 ∷ held c.unless_over.new.self = cc (line.2, then.held) in
    looks-line _ old c.unless_over.new.self _ old.from end _ then.found then.over (omega arith) room (ap (λ b. slice_range b old.from end) then.same) line.1 whole
