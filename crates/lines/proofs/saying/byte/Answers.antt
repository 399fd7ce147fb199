use Rattle.lines.specs.Buffers.{said-one, said-lost}
use Rattle.lines.proofs.saying.byte.Goals as goal

pub returns-then-at-out : goal.returns-then-at-out
returns-then-at-out c = said-one _ _ _ c.if-at-out.true

pub returns-else-at-out : goal.returns-else-at-out
returns-else-at-out c = said-lost _ _ _ c.if-at-out.false
