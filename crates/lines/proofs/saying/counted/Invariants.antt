use Rattle.lines.specs.SayingsLaws.{DigitsLeft}
use Rattle.lines.proofs.saying.counted.Given as goal

abbrev pub invariant-loop-left : goal.invariant-loop-left
invariant-loop-left l = DigitsLeft l.number l.all l.left l.from

abbrev pub decreases-loop-left : goal.decreases-loop-left
decreases-loop-left l = l.left
