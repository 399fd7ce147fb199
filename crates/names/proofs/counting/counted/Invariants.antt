use Rattle.std.proofs.Common.{◌≡◌, ◌+◌, ◌≤◌}
use Rattle.refusals.specs.Names.{count}
use Rattle.names.specs.Tables.{rows_in, is_of}
use Rattle.names.specs.TablesLaws.{rows_up}
use Rattle.names.proofs.counting.counted.Given as goal

abbrev pub invariant-loop-k : goal.invariant-loop-k
invariant-loop-k l = (l.found ≤ l.k) × (count (is_of l.sought) (rows_in l.cells l.n) ≡ l.found + count (is_of l.sought) (rows_up l.cells l.k l.n))
