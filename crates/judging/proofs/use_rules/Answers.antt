use Rattle.std.proofs.Common.{◌∙◌}
use Rattle.refusals.specs.Values.{use_rules}
use Rattle.judging.specs.Asking.{asked-ends, asked-on}
use Rattle.judging.proofs.use_rules.Goals as goal

pub returns-in_err-name_rules : goal.returns-in_err-name_rules
unfolding use_rules
returns-in_err-name_rules c = asked-ends _ _ c.from_residual.ensures c.in_err-name_rules.ensures

pub returns-in_err-rule : goal.returns-in_err-rule
unfolding use_rules
returns-in_err-rule c = asked-on _ _ c.in_ok-name_rules.ensures (asked-ends _ _ c.from_residual-in_err-rule.ensures c.in_err-rule.ensures)

pub returns : goal.returns
unfolding use_rules
returns c = asked-on _ _ c.in_ok-name_rules.ensures (asked-on _ _ c.in_ok-rule.ensures (c.rule-2.ensures ∙ rw c.clash.ensures))
