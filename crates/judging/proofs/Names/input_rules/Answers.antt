use Rattle.judging.specs.Asking.{asked-ends, asked-on}
use Rattle.judging.proofs.Names.input_rules.Goals as goal

pub returns-in_err-type_rules : goal.returns-in_err-type_rules
returns-in_err-type_rules c ix = asked-ends _ _ c.from_residual.ensures c.in_err-type_rules.ensures

pub returns : goal.returns
returns c ix = asked-on _ _ c.in_ok-type_rules.ensures (c.new_port_rules.ensures ix)
