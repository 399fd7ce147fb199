use Rattle.judging.specs.Asking.{asked-ends, asked-on}
use Rattle.activities.proofs.mode_rules.Goals as goal

pub returns-in_err-start_rules : goal.returns-in_err-start_rules
returns-in_err-start_rules c ix = asked-ends _ _ c.from_residual.ensures c.in_err-start_rules.ensures

pub returns-in_err-new_rules : goal.returns-in_err-new_rules
returns-in_err-new_rules c ix = asked-on _ _ c.in_ok-start_rules.ensures (asked-ends _ _ c.from_residual-in_err-new_rules.ensures (c.in_err-new_rules.ensures ix))

pub returns : goal.returns
returns c ix = asked-on _ _ c.in_ok-start_rules.ensures (asked-on _ _ (c.in_ok-new_rules.ensures ix) c.period_rules.ensures)
