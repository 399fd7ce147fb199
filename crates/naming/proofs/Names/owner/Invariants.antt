use Prim.Native.Nat.{◌-◌}
use mathlib.Core.Path.{◌≡◌}
use Rattle.naming.specs.Names.{owner_from}
use Rattle.naming.proofs.Names.owner.Given as goal

abbrev pub invariant-loop-task : goal.invariant-loop-task
invariant-loop-task l = owner_from l.self.task_rows.now l.number 0 l.self.tasks ≡ owner_from l.self.task_rows.now l.number l.task (l.self.tasks - l.task)
