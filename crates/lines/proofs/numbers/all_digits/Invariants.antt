use mathlib.Core.Path.{◌≡◌}
use lib.ListN.{drop}
use Rattle.lines.specs.Numbers.{all, digit_in}
use Rattle.lines.proofs.numbers.all_digits.Given as goal

abbrev pub invariant-loop-byte : goal.invariant-loop-byte
invariant-loop-byte l = all (digit_in l.hex) l.word ≡ all (digit_in l.hex) (drop l.byte-index l.word)
