use Rattle.activities.specs.Kept.{target_checks}
use Rattle.judging.specs.Asking.{asked-ends, asked-on}
use Rattle.activities.proofs.acts.target_rules.Goals as goal

pub returns-in_err-name_rules : goal.returns-in_err-name_rules
unfolding target_checks
returns-in_err-name_rules c = asked-ends _ _ c.from_residual.ensures c.in_err-name_rules.ensures

pub returns : goal.returns
unfolding target_checks
returns c = asked-on _ _ c.in_ok-name_rules.ensures c.rule.ensures
