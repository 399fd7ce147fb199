use Rattle.cells.proofs.TwosComplement.{negative, natural}
use Rattle.std.proofs.Common.{arith, to_z-of_z}
use Rattle.cells.proofs.word_of.Goals as goal

pub overflow_sub-result : goal.overflow_sub-result
overflow_sub-result c = rw (to_z-of_z c.ranges.number) (negative _ c.ranges.number (rw (to_z-of_z c.ranges.number) at c.if-number-lt0.true)).fits

pub overflow_cast-result : goal.overflow_cast-result
overflow_cast-result c = let f = c.ranges.number in let h = negative _ f (rw (to_z-of_z f) at c.if-number-lt0.true) in rw (to_z-of_z f, to_z-of_z h.fits) (h.not_negative, record { fits = omega (arith, h.small) })

pub overflow_sub-result-then-number-lt0 : goal.overflow_sub-result-then-number-lt0
overflow_sub-result-then-number-lt0 c = let f = c.ranges.number in let h = negative _ f (rw (to_z-of_z f) at c.if-number-lt0.true) in rw (to_z-of_z f, to_z-of_z h.fits) (omega (arith, h.small))

pub overflow_cast-result-else-number-lt0 : goal.overflow_cast-result-else-number-lt0
overflow_cast-result-else-number-lt0 c = let f = c.ranges.number in let h = natural _ f (rw (to_z-of_z f) at c.if-number-lt0.false) in rw (to_z-of_z f) (h.not_negative, record { fits = omega (arith, h.small) })

pub returns-then-number-lt0 : goal.returns-then-number-lt0
returns-then-number-lt0 c = let f = c.ranges.number in let h = negative _ f (rw (to_z-of_z f) at c.if-number-lt0.true) in rw (to_z-of_z f, to_z-of_z h.fits) h.word

pub returns-else-number-lt0 : goal.returns-else-number-lt0
returns-else-number-lt0 c = let f = c.ranges.number in let h = natural _ f (rw (to_z-of_z f) at c.if-number-lt0.false) in rw (to_z-of_z f) h.word
