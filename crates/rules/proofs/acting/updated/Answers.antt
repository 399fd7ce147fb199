use Rattle.std.proofs.Common.{arith, ◌∙◌}
use Rattle.judging.specs.Asking.{asked-none, asked-all}
use Rattle.rules.proofs.acting.updated.Goals as goal

pub returns-in_err-update_rules : goal.returns-in_err-update_rules
returns-in_err-update_rules c = record { told = λ ix. asked-none _ c.from_residual.ensures (rw (c.twice_of.ensures, c.front.ensures, c.updated-next.ensures, c.named-actuator.ensures ix, c.first_name-name.ensures, c.second_port.ensures) at c.in_err-update_rules.ensures ix); arrays = λ ix. c.put.ensures ∙ rw (c.named-actuator.ensures ix, c.first_name-name.ensures) }

pub returns : goal.returns
returns c = record { told = λ ix. rw c.updated-next.ensures (asked-all (rw (c.twice_of.ensures, c.front.ensures, c.updated-next.ensures, c.named-actuator.ensures ix, c.first_name-name.ensures, c.second_port.ensures) at c.in_ok-update_rules.ensures ix)); arrays = λ ix. c.put.ensures ∙ rw (c.named-actuator.ensures ix, c.first_name-name.ensures) }
