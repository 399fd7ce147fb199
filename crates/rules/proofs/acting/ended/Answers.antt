use Rattle.judging.specs.Asking.{asked-none, asked-all}
use Rattle.rules.proofs.acting.ended.Goals as goal

pub returns-in_err-end_rules : goal.returns-in_err-end_rules
returns-in_err-end_rules c = asked-none _ c.from_residual.ensures c.in_err-end_rules.ensures

pub returns : goal.returns
returns c = asked-all c.in_ok-end_rules.ensures
