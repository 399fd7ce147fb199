use Rattle.judging.specs.Asking.{asked-none, asked-all}
use Rattle.rules.proofs.acting.switched.Goals as goal

pub returns-in_err-target_rules : goal.returns-in_err-target_rules
returns-in_err-target_rules c ix kept = asked-none _ c.from_residual.ensures (rw (c.is_mode-mode.ensures ix kept, c.state_of.ensures, c.first_name-name.ensures) at c.in_err-target_rules.ensures)

pub returns : goal.returns
returns c ix kept = rw (c.switched.ensures) (asked-all (rw (c.is_mode-mode.ensures ix kept, c.state_of.ensures, c.first_name-name.ensures) at c.in_ok-target_rules.ensures))
