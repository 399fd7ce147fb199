use mathlib.Core.Path.{sym, ◌∙◌}
use Rattle.scan.specs.Others.{starts-plain}
use Rattle.scan.proofs.starts_at.Goals as goal

pub returns-in-Some : goal.returns-in-Some
returns-in-Some c =
    let args = c.args in
    let pre = c.requires in
    let alone = rw c.in-Some.is at c.sign.ensures in
    c.found.ensures ∙ sym (starts-plain args.s.now args.at args.b pre.0 pre.1 alone.0 ∙ rw alone.1)
