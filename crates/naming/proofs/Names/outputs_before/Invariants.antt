use Prim.Native.Nat.{◌*◌, ◌≤◌}
use mathlib.Core.Path.{◌≡◌}
use Rattle.naming.specs.Names.{outputs_of}
use Rattle.naming.proofs.Names.outputs_before.Given as goal

abbrev pub invariant-loop-k : goal.invariant-loop-k
invariant-loop-k l = (l.sum ≡ outputs_of l.self.task_rows.now l.k) × (l.sum ≤ 4294967295 * l.k)
