use Rattle.lines.specs.SayingsLaws as law
use Rattle.lines.specs.Buffers.{said-then}
use Rattle.lines.proofs.saying.value.Goals as goal

pub returns-then-typ-eq1 : goal.returns-then-typ-eq1
returns-then-typ-eq1 c = rw (law.value-boolean _ _ c.if-typ-eq1.true) (said-then c.byte-front.ensures c.decimal.ensures)

pub returns-else-typ-eq1 : goal.returns-else-typ-eq1
returns-else-typ-eq1 c = rw (law.value-int _ _ c.if-typ-eq1.false) (said-then c.byte-front-else-typ-eq1.ensures c.int.ensures)
