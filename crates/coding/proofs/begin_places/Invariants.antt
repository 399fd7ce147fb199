use Rattle.std.proofs.Common.{◌≡◌, drop}
use Rattle.coding.specs.Codings.{begun_from}
use Rattle.coding.proofs.begin_places.Given as goal

abbrev pub invariant-loop-k : goal.invariant-loop-k
invariant-loop-k l = begun_from l.mode_rows l.k (drop l.k l.begins) ≡ begun_from l.initial.mode_rows 0 l.begins
