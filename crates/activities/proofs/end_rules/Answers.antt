use Rattle.refusals.specs.Activities.{end_rules}
use Rattle.activities.proofs.end_rules.Goals as goal

pub returns : goal.returns
unfolding end_rules
returns c = c.rule.ensures
