use Rattle.std.proofs.Common.{◌*◌}
use lib.ListN.{drop}
use Rattle.lines.specs.Buffers.{Still}
use Rattle.lines.specs.Numbers.{bytes_of}
use Rattle.lines.proofs.numbers.fill.Given as goal

abbrev pub invariant-loop-k : goal.invariant-loop-k
invariant-loop-k l = Still l.initial.room 0 (bytes_of l.word) l.room l.k (bytes_of (drop (2 * l.k) l.word))
