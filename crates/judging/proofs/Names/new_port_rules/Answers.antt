use Rattle.std.proofs.Common.{◌∙◌}
use Rattle.refusals.specs.Declarations.{new_port_rules}
use Rattle.judging.specs.Asking.{asked-ends, asked-on}
use Rattle.judging.proofs.Names.new_port_rules.Goals as goal

pub returns-in_err-fresh_rules : goal.returns-in_err-fresh_rules
unfolding new_port_rules
returns-in_err-fresh_rules c ix = asked-ends _ _ c.from_residual.ensures (rw (c.count-scope.ensures _ ix) at c.in_err-fresh_rules.ensures ix)

pub returns : goal.returns
unfolding new_port_rules
returns c ix = asked-on _ _ (rw (c.count-scope.ensures _ ix) at c.in_ok-fresh_rules.ensures ix) (rw (c.count-scope.ensures _ ix) at c.full_rules.ensures ix)
