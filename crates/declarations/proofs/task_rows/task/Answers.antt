use Rattle.fields.specs.TakingLaws as law
use Rattle.declarations.specs.StoreLaws as store
use Rattle.declarations.specs.TaskLaws as task-law
use Rattle.declarations.proofs.task_rows.task.Goals as goal

pub returns-in_err-inputs-clause-takes : goal.returns-in_err-inputs-clause-takes
returns-in_err-inputs-clause-takes c =
    law.takes-exit _ _ _ c.from_residual-in_err-inputs.ensures.1
    (task-law.inputs-out c.args.k c.args.port c.args.used.inputs c.args.used.outputs c.args.names.now _ _ (store.ported c.args.titles.now c.args.types.now c.args.starts.now) c.in_ok-name.ensures.reads c.in_ok-function.ensures.reads
    c.in_err-inputs.ensures.takes)

pub returns-in_err-outputs-clause-takes : goal.returns-in_err-outputs-clause-takes
returns-in_err-outputs-clause-takes c =
    law.takes-exit _ _ _ c.from_residual-in_err-outputs.ensures.1
    (task-law.takes-outputs c.args.k c.args.port c.args.used.inputs c.args.used.outputs c.args.names.now _ _ (store.ported c.args.titles.now c.args.types.now c.args.starts.now) c.in_ok-name.ensures.reads c.in_ok-function.ensures.reads
    c.in_ok-inputs.ensures.takes c.in_err-outputs.ensures.takes)

pub returns-clause-takes : goal.returns-clause-takes
returns-clause-takes c =
    rw (c.put_name-2.ensures.row c.in_ok-function.ensures.short, c.put_name.ensures.row c.in_ok-name.ensures.short)
    (task-law.takes-outputs c.args.k c.args.port c.args.used.inputs c.args.used.outputs c.args.names.now _ _ (store.ported c.args.titles.now c.args.types.now c.args.starts.now) c.in_ok-name.ensures.reads c.in_ok-function.ensures.reads
    c.in_ok-inputs.ensures.takes c.in_ok-outputs.ensures.takes)
