use Rattle.writing.specs.Wrote.{Wrote}
use Rattle.writing.specs.Puts.{parts}
use Rattle.writing.specs.Cells.{mode_in}
use Rattle.writing.proofs.modes.modes.Given as goal

abbrev pub invariant-loop-k : goal.invariant-loop-k
invariant-loop-k l = Wrote l.initial.out (parts (mode_in l.t.mode_names.now l.t.mode_rows.now) l.k) l.out
