use Rattle.lines.specs.SayingsLaws as law
use Rattle.lines.specs.Buffers.{said-then}
use Rattle.lines.proofs.saying.int.Goals as goal

pub returns-then-number-lt2147483648 : goal.returns-then-number-lt2147483648
returns-then-number-lt2147483648 c = rw (law.int-plain _ c.if-number-lt2147483648.true) c.decimal.ensures

pub returns-else-number-lt2147483648 : goal.returns-else-number-lt2147483648
returns-else-number-lt2147483648 c = rw (law.int-minus _ c.if-number-lt2147483648.false) (said-then c.byte-minus.ensures c.decimal-else-number-lt2147483648.ensures)
