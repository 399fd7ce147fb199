use Rattle.refusals.specs.Activities.{period_rules}
use Rattle.activities.specs.KeptLaws.{period-kept}
use Rattle.activities.proofs.period_rules.Goals as goal

pub returns : goal.returns
unfolding period_rules
returns c = rw (c.beyond.ensures, c.period_of.ensures, period-kept) at c.rule.ensures
