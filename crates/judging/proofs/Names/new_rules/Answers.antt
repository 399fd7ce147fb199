use Rattle.std.proofs.Common.{◌∙◌}
use Rattle.refusals.specs.Declarations.{new_rules}
use Rattle.judging.specs.Asking.{asked-ends, asked-on}
use Rattle.judging.proofs.Names.new_rules.Goals as goal

pub returns-in_err-fresh_rules : goal.returns-in_err-fresh_rules
unfolding new_rules
returns-in_err-fresh_rules c ix = asked-ends _ _ c.from_residual.ensures (c.in_err-fresh_rules.ensures ix)

pub returns : goal.returns
unfolding new_rules
returns c ix = asked-on _ _ (c.in_ok-fresh_rules.ensures ix) (c.rule.ensures ∙ rw (c.room_of.ensures, c.count-taken.ensures _ ix))
