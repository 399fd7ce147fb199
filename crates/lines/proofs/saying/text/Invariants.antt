use lib.ListN.{drop}
use Rattle.lines.specs.Buffers.{Still}
use Rattle.lines.proofs.saying.text.Given as goal

abbrev pub invariant-loop-letter : goal.invariant-loop-letter
invariant-loop-letter l = Still l.initial.out l.at l.word l.out l.next (drop l.letter-index l.word)
