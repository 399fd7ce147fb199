use Rattle.std.proofs.Common.{sym, ◌∙◌}
use Rattle.wants.specs.Given.{spelling}
use Rattle.wants.proofs.spelt.Goals as goal

pub returns-then-same : goal.returns-then-same
unfolding spelling
returns-then-same c = simp (sym c.same.ensures ∙ c.if-same.true)

pub returns-else-same : goal.returns-else-same
unfolding spelling
returns-else-same c = simp (sym c.same.ensures ∙ c.if-same.false)
