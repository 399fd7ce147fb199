use Rattle.refusals.specs.Checks.{first}
use Rattle.judging.proofs.rule.Goals as goal

pub returns-then-broken : goal.returns-then-broken
unfolding first
returns-then-broken c = simp c.if-broken.true

pub returns : goal.returns
unfolding first
returns c = simp c.if-broken.false
