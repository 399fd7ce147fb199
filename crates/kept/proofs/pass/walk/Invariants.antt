use Prim.Native.Nat.{◌+◌, ◌-◌, ◌*◌, ◌≤◌}
use mathlib.Core.Path.{◌≡◌}
use lib.ListN.{length}
use Rattle.kept.specs.Passes.{Walking}
use Rattle.kept.proofs.pass.walk.Given as goal

abbrev pub invariant-loop : goal.invariant-loop
invariant-loop l = record {
  walking : Walking l.s l.state l.place l.turns l.rows l.many l.number l.at (l.turns - l.counter);
  size : length l.rows ≡ length l.initial.rows;
  room : l.many * 16 + 16 ≤ length l.rows;
}
