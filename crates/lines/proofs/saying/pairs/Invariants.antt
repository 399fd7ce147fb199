use lib.ListN.{drop}
use Rattle.lines.specs.Buffers.{Still}
use Rattle.lines.specs.Sayings.{pairs_of}
use Rattle.lines.proofs.saying.pairs.Given as goal

abbrev pub invariant-loop-number : goal.invariant-loop-number
invariant-loop-number l = Still l.initial.out l.at (pairs_of l.bytes) l.out l.next (pairs_of (drop l.number-index l.bytes))
