use mathlib.Core.Path.{◌≡◌}
use Prim.Native.Nat.{◌≤◌}
use Rattle.codec.specs.Readings.{got}
use Rattle.fields.specs.Taking.{Left}
use Rattle.file.specs.Records.{task, used_with}
use Rattle.declarations.specs.Stores as to
use Rattle.declarations.specs.StoreLaws as store
use Rattle.declarations.specs.TaskLaws as task-law
use Rattle.declarations.proofs.task_rows.tasks.Given as goal

abbrev pub invariant-loop-k : goal.invariant-loop-k
invariant-loop-k l =
    record {
      inputs_bound : l.used.inputs ≤ 128;
      outputs_bound : l.used.outputs ≤ 128;
      left : Left task used_with to.used_of (to.store_task (to.first_port l.from)) l.count l.k (got (task-law.state_of l.initial.names (store.ported l.initial.titles l.initial.types l.initial.starts) l.initial.roles l.initial.rows 0 0) l.initial.file.rest.now)
          (got (task-law.state_of l.names (store.ported l.titles l.types l.starts) l.roles l.rows l.used.inputs l.used.outputs) l.file.rest.now);
    }
