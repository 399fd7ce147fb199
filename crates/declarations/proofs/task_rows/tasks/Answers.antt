use native.Mathlib.Omega.{arith}
use mathlib.Core.Path.{refl, ap}
use Prim.Native.Nat.{ℕ, ◌+◌}
use Rattle.codec.proofs.Lists.{running-no}
use Rattle.fields.specs.TakingLaws as law
use Rattle.fields.specs.RunLaws as run
use Rattle.declarations.specs.Stores as to
use Rattle.file.specs.Records.{tasks}
use Rattle.declarations.specs.TaskLaws as task-law
use Rattle.declarations.proofs.task_rows.tasks.Goals as goal

pub returns-in_err-count-clause-takes : goal.returns-in_err-count-clause-takes
unfolding tasks
returns-in_err-count-clause-takes c = law.takes-exit _ _ _ c.from_residual.ensures.1 (law.takes-no (running-no _ _ _ _ c.in_err-count.ensures.reads))

pub loop-k-init : goal.loop-k-init
loop-k-init c = record { inputs_bound = omega arith; outputs_bound = omega arith; left = run.left-begin }

pub loop-k-preserved : goal.loop-k-preserved
unfolding to.store_task
loop-k-preserved c =
    let i = c.loop-k.invariant in
    let port = c.first_port-first.result + c.loop-k.used.inputs + c.loop-k.used.outputs in
    record {
      inputs_bound = c.in_ok-ports.ensures.shares_bound.1;
      outputs_bound = c.in_ok-ports.ensures.shares_bound.3;
      left = run.left-more (λ a. refl) (omega arith) i.left
          (rw (c.enter.ensures.roles, c.enter.ensures.rows) (task-law.takes-entered (to.first_port c.args.from) c.loop-k.k port (ap (λ (f : ℕ). f + c.loop-k.used.inputs + c.loop-k.used.outputs) c.first_port-first.ensures.0) c.in_ok-ports.ensures.takes));
    }

pub returns-in_err-ports-clause-takes : goal.returns-in_err-ports-clause-takes
unfolding tasks to.store_task
returns-in_err-ports-clause-takes c =
    let i = c.loop-k.invariant in
    let port = c.first_port-first.result + c.loop-k.used.inputs + c.loop-k.used.outputs in
    law.takes-exit _ _ _ c.from_residual-in_err-ports.ensures.1
    (run.takes-counted _ _ refl c.in_ok-count.ensures.reads
    (run.left_out (λ a. refl) (omega arith) i.left
    (task-law.takes-entered (to.first_port c.args.from) c.loop-k.k port (ap (λ (f : ℕ). f + c.loop-k.used.inputs + c.loop-k.used.outputs) c.first_port-first.ensures.0) c.in_err-ports.ensures.takes)))

pub returns-clause-takes : goal.returns-clause-takes
unfolding tasks
returns-clause-takes c = run.takes-counted _ _ refl c.in_ok-count.ensures.reads (run.left_end (omega arith) c.loop-k.invariant.left)
