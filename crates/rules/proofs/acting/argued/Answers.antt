use Rattle.judging.specs.Asking.{asked-none, asked-all}
use Rattle.rules.proofs.acting.argued.Goals as goal

pub returns-in_err-port_rules : goal.returns-in_err-port_rules
returns-in_err-port_rules c ix = asked-none _ c.from_residual.ensures (rw (c.type_of-wanted.ensures _ ix, c.first_port.ensures) at c.in_err-port_rules.ensures ix)

pub returns : goal.returns
returns c ix = rw (c.argued.ensures) (asked-all (rw (c.type_of-wanted.ensures _ ix, c.first_port.ensures) at c.in_ok-port_rules.ensures ix))
