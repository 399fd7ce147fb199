use mathlib.Core.Path.{sym, ◌∙◌}
use Rattle.scan.specs.Others as law
use Rattle.scan.proofs.list_token.Goals as goal

pub returns-in-Some-eq44 : goal.returns-in-Some-eq44
returns-in-Some-eq44 c =
    let there = c.in-Some-eq44.ensures.lookup.3 in
    c.found.ensures ∙ sym (law.at_once c.args.s.now c.args.at 44 _ there.0 (sym (there.1 0) ∙ c.in-Some-eq44.field-0-test) law.comma)

pub returns-in-Some-eq41 : goal.returns-in-Some-eq41
returns-in-Some-eq41 c =
    let there = c.in-Some-eq41.ensures.lookup.3 in
    c.found-in-Some-eq41.ensures ∙ sym (law.at_once c.args.s.now c.args.at 41 _ there.0 (sym (there.1 0) ∙ c.in-Some-eq41.field-0-test) law.right-paren)

pub returns-in-Some-eq46 : goal.returns-in-Some-eq46
returns-in-Some-eq46 c =
    let there = c.in-Some-eq46.ensures.lookup.3 in
    c.found-in-Some-eq46.ensures ∙ sym (law.at_once c.args.s.now c.args.at 46 _ there.0 (sym (there.1 0) ∙ c.in-Some-eq46.field-0-test) law.dot)
