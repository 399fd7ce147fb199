use Rattle.judging.specs.Asking.{asked-none, asked-all}
use Rattle.rules.proofs.acting.guarded.Goals as goal

pub returns-in_err-guard_rules : goal.returns-in_err-guard_rules
returns-in_err-guard_rules c = asked-none _ c.from_residual.ensures (rw (c.function_named-number.ensures, c.first_name-name.ensures) at c.in_err-guard_rules.ensures)

pub returns : goal.returns
returns c = rw (c.guarded.ensures, c.function_named-number.ensures, c.first_name-name.ensures) (asked-all (rw (c.function_named-number.ensures, c.first_name-name.ensures) at c.in_ok-guard_rules.ensures))
