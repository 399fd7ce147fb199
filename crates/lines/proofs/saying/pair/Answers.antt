use Rattle.lines.specs.SayingsLaws as law
use Rattle.lines.specs.Buffers.{said-then}
use Rattle.lines.proofs.saying.pair.Goals as goal

pub returns : goal.returns
returns c =
    let first = c.byte-high in
    let high = c.glyph in
    rw (law.pair_is, ← high.ensures, ← c.glyph-2.ensures) (said-then first.ensures c.byte.ensures)
