use Rattle.std.proofs.Common.{◌∙◌}
use Rattle.refusals.specs.Values.{value_rules}
use Rattle.judging.proofs.Names.value_rules.Goals as goal

pub returns-in-Truth : goal.returns-in-Truth
unfolding value_rules
returns-in-Truth c ix = rw c.in-Truth.is (c.rule.ensures ∙ rw c.clash.ensures)

pub returns-in-Number : goal.returns-in-Number
unfolding value_rules
returns-in-Number c ix = rw c.in-Number.is c.number_rules.ensures

pub returns-in-Named : goal.returns-in-Named
unfolding value_rules
returns-in-Named c ix = rw c.in-Named.is (c.use_rules.ensures ∙ rw (c.named-constant.ensures ix))
