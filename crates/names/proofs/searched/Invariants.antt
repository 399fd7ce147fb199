use Rattle.std.proofs.Common.{◌≡◌}
use Rattle.refusals.specs.Names.{find}
use Rattle.names.specs.Tables.{rows_in}
use Rattle.names.specs.TablesLaws.{rows_up}
use Rattle.names.proofs.searched.Given as goal

abbrev pub invariant-loop-k : goal.invariant-loop-k
invariant-loop-k l = find l.s (rows_in l.cells l.n) l.scope l.word ≡ find l.s (rows_up l.cells l.k l.n) l.scope l.word
