use Rattle.writing.specs.Wrote.{wrote-both, wrote_of}
use Rattle.writing.specs.Cells.{inputs_in, outputs_in, outputs_before, task_in}
use Rattle.writing.proofs.tasks.task.Goals as goal

pub returns : goal.returns
unfolding task_in
returns c =
    let t = c.args.t.now in
    let taken = wrote_of (inputs_in _ _) c.at32-2.ensures (wrote_of (λ x. inputs_in t.types.now x c.at32-2.result) c.at32.ensures c.inputs.ensures) in
    let placed = wrote_of (λ x. outputs_in t.output_names.now t.types.now t.starts.now x c.at32-3.result c.at32-4.result) c.requires.2 c.outputs.ensures in
    let from = wrote_of (λ x. outputs_in t.output_names.now t.types.now t.starts.now (outputs_before t.task_rows.now c.args.k) x c.at32-4.result) c.at32-3.ensures placed in
    wrote-both c.name.ensures (wrote-both c.name-2.ensures (wrote-both taken (wrote_of (outputs_in _ _ _ _ _) c.at32-4.ensures from)))
