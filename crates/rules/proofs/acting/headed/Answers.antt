use Rattle.judging.specs.Asking.{asked-none, asked-all}
use Rattle.rules.proofs.acting.headed.Goals as goal

pub returns-in_err-head_rules : goal.returns-in_err-head_rules
returns-in_err-head_rules c = asked-none _ c.from_residual.ensures (rw (c.front.ensures, c.section.ensures, c.first_name-digits.ensures) at c.in_err-head_rules.ensures)

pub returns : goal.returns
returns c = rw (c.headed.ensures, c.first_name-digits.ensures) (asked-all (rw (c.front.ensures, c.section.ensures, c.first_name-digits.ensures) at c.in_ok-head_rules.ensures))
