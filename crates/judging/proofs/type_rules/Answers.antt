use Rattle.std.proofs.Common.{◌∙◌}
use Rattle.refusals.specs.Values.{type_rules}
use Rattle.judging.specs.Asking.{asked-ends, asked-on}
use Rattle.judging.proofs.type_rules.Goals as goal

pub returns-in_err-name_rules : goal.returns-in_err-name_rules
unfolding type_rules
returns-in_err-name_rules c = asked-ends _ _ c.from_residual.ensures c.in_err-name_rules.ensures

pub returns : goal.returns
unfolding type_rules
returns c = asked-on _ _ c.in_ok-name_rules.ensures (c.rule.ensures ∙ rw c.type_named.ensures)
