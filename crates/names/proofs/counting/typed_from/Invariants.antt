use Rattle.std.proofs.Common.{◌≡◌}
use Rattle.names.specs.Tables.{is_of}
use Rattle.names.specs.TablesLaws.{type_up}
use Rattle.names.proofs.counting.typed_from.Given as goal

abbrev pub invariant-loop-k : goal.invariant-loop-k
invariant-loop-k l = type_up (is_of l.sought) l.cells l.from l.n l.i ≡ type_up (is_of l.sought) l.cells l.k l.n l.left
