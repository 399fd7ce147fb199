use Rattle.cells.proofs.TwosComplement.{high}
use Rattle.std.proofs.Common.{◌∙◌, to_z-of_z}
use Rattle.cells.proofs.int_of.Goals as goal

pub overflow_sub-result-else-word-lt2147483648 : goal.overflow_sub-result-else-word-lt2147483648
overflow_sub-result-else-word-lt2147483648 c = (high _ c.ranges.word.fits c.if-word-lt2147483648.false).fits

pub returns-else-word-lt2147483648 : goal.returns-else-word-lt2147483648
returns-else-word-lt2147483648 c = let h = high _ c.ranges.word.fits c.if-word-lt2147483648.false in to_z-of_z h.fits ∙ h.number
