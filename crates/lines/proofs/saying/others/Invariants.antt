use Prim.Native.Nat.{◌-◌}
use Rattle.lines.specs.Buffers.{Still}
use Rattle.lines.specs.Sayings.{values_behind}
use Rattle.lines.proofs.saying.others.Given as goal

abbrev pub invariant-loop-k : goal.invariant-loop-k
invariant-loop-k l = Still l.initial.out l.at (values_behind l.types l.words 1 (l.many - 1)) l.out l.next (values_behind l.types l.words l.k (l.many - l.k))
