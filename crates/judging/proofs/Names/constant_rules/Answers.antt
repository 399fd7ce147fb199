use Rattle.judging.specs.Asking.{asked-ends, asked-on}
use Rattle.judging.proofs.Names.constant_rules.Goals as goal

pub returns-in_err-new_rules : goal.returns-in_err-new_rules
returns-in_err-new_rules c ix = asked-ends _ _ c.from_residual.ensures (c.in_err-new_rules.ensures ix)

pub returns : goal.returns
returns c ix = asked-on _ _ (c.in_ok-new_rules.ensures ix) (c.value_rules.ensures ix)
