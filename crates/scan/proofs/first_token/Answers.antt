use mathlib.Core.Path.{refl, sym, ◌∙◌}
use Rattle.text.specs.StartsLaws as law
use Rattle.scan.proofs.first_token.Goals as goal

pub returns-in-Byte : goal.returns-in-Byte
returns-in-Byte c =
    let args = c.args in
    let reached = rw c.in-Byte.is at c.first.ensures in
    c.starts_at.ensures ∙ sym (law.token-behind args.s.now args.at _ refl _ reached.0)

pub returns-in-End : goal.returns-in-End
returns-in-End c =
    let args = c.args in
    let reached = rw c.in-End.is at c.first.ensures in
    c.found.ensures ∙ sym (law.token-behind args.s.now args.at _ refl _ reached.0 ∙ law.starts-end args.s.now _ reached.1)

pub returns-in-Open : goal.returns-in-Open
returns-in-Open c =
    let args = c.args in
    let reached = rw c.in-Open.is at c.first.ensures in
    c.found-in-Open.ensures ∙ sym (law.token-open args.s.now args.at _ refl _ reached)
