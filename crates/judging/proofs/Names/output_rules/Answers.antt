use Rattle.judging.specs.Asking.{asked-ends, asked-on}
use Rattle.judging.proofs.Names.output_rules.Goals as goal

pub returns-in_err-type_rules : goal.returns-in_err-type_rules
returns-in_err-type_rules c ix = asked-ends _ _ c.from_residual.ensures c.in_err-type_rules.ensures

pub returns-in_err-new_port_rules : goal.returns-in_err-new_port_rules
returns-in_err-new_port_rules c ix = asked-on _ _ c.in_ok-type_rules.ensures (asked-ends _ _ c.from_residual-in_err-new_port_rules.ensures (c.in_err-new_port_rules.ensures ix))

pub returns : goal.returns
returns c ix = asked-on _ _ c.in_ok-type_rules.ensures (asked-on _ _ (c.in_ok-new_port_rules.ensures ix) (c.start_rules.ensures ix))
