use Rattle.std.proofs.Common.{◌∙◌}
use Rattle.refusals.specs.Values.{value_rules}
use Rattle.judging.specs.Rooms.{int-kept}
use Rattle.judging.specs.Asking.{asked-ends, asked-on}
use Rattle.judging.proofs.number_rules.Goals as goal

pub returns-in_err-rule : goal.returns-in_err-rule
unfolding value_rules
returns-in_err-rule c = asked-ends _ _ c.from_residual.ensures (rw c.clash.ensures at c.in_err-rule.ensures)

pub returns : goal.returns
unfolding value_rules
returns c = asked-on _ _ (rw c.clash.ensures at c.in_ok-rule.ensures) (rw (c.beyond_int.ensures, c.number_of.ensures, int-kept) at c.rule-2.ensures)
