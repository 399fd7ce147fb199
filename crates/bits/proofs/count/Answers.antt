use Rattle.machine.specs.WordLaws.{count_ones}
use mathlib.Core.Path.{sym}
use Rattle.bits.proofs.count.Goals as goal

pub returns : goal.returns
returns c = sym (count_ones c.args.word c.ranges.word.fits)
