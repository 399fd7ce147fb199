use Rattle.std.proofs.Common.{sym, ◌∙◌, arith}
use Rattle.lines.specs.InputsLaws.{none-held, looks-end}
use Rattle.lines.proofs.input.Lines.more.Goals as goal

pub returns-then-size-eq0-clause-looks : goal.returns-then-size-eq0-clause-looks
returns-then-size-eq0-clause-looks g c =
    let old = c.args.self.now in
    let mid = c.make_room.new.self in
    let over = c.clear.ensures.over ∙ c.fill.ensures.over ∙ c.make_room.ensures.over in
    let none = sym c.make_room.ensures.held ∙ none-held mid c.if-size-eq0.true in
    looks-end _ _ old c.clear.new.self c.if-fill.ensures.read.0 over c.requires none c.clear.ensures.none (omega (arith, c.make_room.ensures.room, c.if-size-self.false, c.if-size-eq0.true))
