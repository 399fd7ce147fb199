use Rattle.std.proofs.Common.{sym, refl, ◌∙◌, arith}
use Rattle.lines.specs.Numbers.{digit_in}
use Rattle.lines.specs.NumbersLaws as law
use Rattle.lines.proofs.numbers.all_digits.Goals as goal

pub loop-byte-init : goal.loop-byte-init
loop-byte-init c = refl

pub returns-then-not-is_digit : goal.returns-then-not-is_digit
returns-then-not-is_digit c =
    let out = c.loop-byte.invariant ∙ law.all-out (digit_in c.args.hex) c.args.word.now c.loop-byte.byte-index (omega arith) (sym c.is_digit.ensures ∙ c.if-not-is_digit.true) in
    law.digits-not _ _ out

pub loop-byte-preserved : goal.loop-byte-preserved
loop-byte-preserved c = c.loop-byte.invariant ∙ law.all-on (digit_in c.args.hex) c.args.word.now c.loop-byte.byte-index (omega arith) (sym c.is_digit.ensures ∙ c.if-not-is_digit.false)

pub returns : goal.returns
returns c =
    let end = c.loop-byte.invariant ∙ law.all_end (digit_in c.args.hex) c.args.word.now c.loop-byte.byte-index (omega arith) in
    law.digits-all _ _ _ end c.is_empty.ensures
