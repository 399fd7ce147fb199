use Rattle.judging.specs.Asking.{asked-none, asked-all}
use Rattle.rules.proofs.declaring.called.Goals as goal

pub returns-in_err-name_rules : goal.returns-in_err-name_rules
returns-in_err-name_rules c = asked-none _ c.from_residual.ensures (rw c.first_name.ensures at c.in_err-name_rules.ensures)

pub returns : goal.returns
returns c = asked-all (rw c.first_name.ensures at c.in_ok-name_rules.ensures)
