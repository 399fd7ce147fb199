use Rattle.std.proofs.Common.{arith, ◌∙◌}
use Rattle.judging.specs.Asking.{asked-none, asked-all}
use Rattle.rules.proofs.acting.invoked.Goals as goal

pub returns-in_err-call_rules : goal.returns-in_err-call_rules
returns-in_err-call_rules c = record { told = λ ix. asked-none _ c.from_residual.ensures (rw (c.twice_of.ensures, c.front.ensures, c.invoked-next.ensures, c.task_named-task.ensures ix, c.first_name-name.ensures) at c.in_err-call_rules.ensures _ ix); arrays = λ ix. (c.put.ensures, c.put-2.ensures ∙ rw (c.task_named-task.ensures ix, c.first_name-name.ensures)) }

pub returns : goal.returns
returns c = record { told = λ ix. rw (c.invoked-next.ensures, c.task_named-task.ensures ix, c.first_name-name.ensures) (asked-all (rw (c.twice_of.ensures, c.front.ensures, c.invoked-next.ensures, c.task_named-task.ensures ix, c.first_name-name.ensures) at c.in_ok-call_rules.ensures _ ix)); arrays = λ ix. (c.put.ensures, c.put-2.ensures ∙ rw (c.task_named-task.ensures ix, c.first_name-name.ensures)) }
