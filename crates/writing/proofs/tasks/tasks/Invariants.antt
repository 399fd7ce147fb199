use Rattle.writing.specs.Wrote.{Wrote, tasks_of}
use Rattle.writing.specs.Puts.{parts}
use Rattle.writing.specs.Cells.{outputs_before, task_in}
use Rattle.std.proofs.Common.{◌≡◌, ◌≤◌, ◌*◌}
use Rattle.writing.proofs.tasks.tasks.Given as goal

abbrev pub invariant-loop-k : goal.invariant-loop-k
invariant-loop-k l = record { so_far : l.row ≡ outputs_before l.t.task_rows.now l.k; few : l.row ≤ 8 * l.k; wrote : Wrote l.initial.out (parts (task_in (tasks_of l.t)) l.k) l.out }
