use Rattle.judging.specs.Asking.{asked-ends, asked-on}
use Rattle.activities.proofs.acts.update_rules.Goals as goal

pub returns-in_err-update_name_rules : goal.returns-in_err-update_name_rules
returns-in_err-update_name_rules c ix = asked-ends _ _ c.from_residual.ensures c.in_err-update_name_rules.ensures

pub returns : goal.returns
returns c ix = asked-on _ _ c.in_ok-update_name_rules.ensures (c.port_rules.ensures ix)
