use Rattle.std.proofs.Common.{sym, ◌∙◌, Some, None}
use Rattle.lines.specs.Parts.{found, find-position}
use Rattle.lines.proofs.find.Goals as goal

pub returns-in-Some : goal.returns-in-Some
returns-in-Some c = found _ _ _ _ (find-position _ c.args.at c.args.byte _ c.min-from.ensures (Some c.in-Some.n) (sym c.in-Some.is ∙ c.first.ensures))

pub returns-in-None : goal.returns-in-None
returns-in-None c = found _ _ _ _ (find-position _ c.args.at c.args.byte _ c.min-from.ensures None (sym c.in-None.is ∙ c.first.ensures))
