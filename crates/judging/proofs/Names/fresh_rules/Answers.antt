use Rattle.std.proofs.Common.{◌∙◌}
use Rattle.judging.specs.Asking.{asked-ends, asked-on}
use Rattle.judging.proofs.Names.fresh_rules.Goals as goal

pub returns-in_err-rule : goal.returns-in_err-rule
returns-in_err-rule c ix = asked-ends _ _ c.from_residual.ensures (rw c.too_long.ensures at c.in_err-rule.ensures)

pub returns : goal.returns
returns c ix = asked-on _ _ (rw c.too_long.ensures at c.in_ok-rule.ensures) (c.rule-2.ensures ∙ rw (c.find-before.ensures ix))
