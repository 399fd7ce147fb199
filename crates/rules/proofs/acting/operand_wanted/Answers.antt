use Rattle.rules.specs.Meets.{pair-first}
use Rattle.std.proofs.Common.{rules}
use Rattle.rules.proofs.acting.operand_wanted.Goals as goal

pub returns-then-left-eq0 : goal.returns-then-left-eq0
returns-then-left-eq0 c = rw c.if-left-eq0.true

pub returns-else-left-eq0 : goal.returns-else-left-eq0
returns-else-left-eq0 c = pair-first _ _ c.if-left-eq0.false
