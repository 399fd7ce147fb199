use Rattle.lines.specs.SayingsLaws as law
use Rattle.lines.specs.Buffers.{said-then}
use Rattle.lines.proofs.saying.values.Goals as goal

pub returns-then-many-eq0 : goal.returns-then-many-eq0
returns-then-many-eq0 c = rw (law.values-none _ _ _ c.if-many-eq0.true) c.byte.ensures

pub returns-else-many-eq0 : goal.returns-else-many-eq0
returns-else-many-eq0 c =
    let first = rw (c.at32.ensures, c.at32-else-many-eq0.ensures) at c.value-front.ensures in
    rw (law.values-some _ _ _ c.if-many-eq0.false) (said-then first c.others.ensures)
