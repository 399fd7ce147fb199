use borrow.Author.Rules.{rules}
use Rattle.lines.specs.SayingsLaws.{digits-begin, digits-on, digits-end}
use Rattle.lines.proofs.saying.counted.Goals as goal

pub loop-left-init : goal.loop-left-init
loop-left-init c = digits-begin _ (search rules)

pub loop-left-preserved : goal.loop-left-preserved
loop-left-preserved c = digits-on c.loop-left.invariant c.loop-left-test.true

pub returns : goal.returns
returns c = digits-end c.loop-left.invariant c.loop-left-test.false
