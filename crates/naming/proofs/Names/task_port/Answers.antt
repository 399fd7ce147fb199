use mathlib.Core.Path.{refl}
use Rattle.lines.specs.Buffers.{said-then}
use Rattle.naming.specs.Laws.{said-is, among-is, task-input, task-output, task-neither}
use Rattle.naming.proofs.Names.task_port.Goals as goal

pub returns-then-among : goal.returns-then-among
returns-then-among c =
    let input = among-is _ _ _ _ _ _ _ c.at32-first_input.ensures c.at32.ensures c.among.ensures c.if-among.true in
    said-is (task-input _ _ _ _ _ _ _ input c.at32-first_input.ensures c.saturating_sub.ensures) (said-then c.name-named.ensures c.input.ensures)

pub returns-then-among-2 : goal.returns-then-among-2
returns-then-among-2 c =
    let other = among-is _ _ _ _ _ _ _ c.at32-first_input.ensures c.at32.ensures c.among.ensures c.if-among.false in
    let output = among-is _ _ _ _ _ _ _ c.at32-first_output.ensures c.at32-else-among.ensures c.among-else-among.ensures c.if-among-2.true in
    let named = task-output _ _ _ _ _ _ _ _ _ other output c.at32-first_output.ensures c.saturating_sub-behind.ensures c.outputs_before.ensures.0 refl in
    said-is named (said-then c.name-named.ensures (said-then c.byte-dotted.ensures c.name.ensures))

pub returns-else-among-2 : goal.returns-else-among-2
returns-else-among-2 c =
    let other = among-is _ _ _ _ _ _ _ c.at32-first_input.ensures c.at32.ensures c.among.ensures c.if-among.false in
    let neither = among-is _ _ _ _ _ _ _ c.at32-first_output.ensures c.at32-else-among.ensures c.among-else-among.ensures c.if-among-2.false in
    said-is (task-neither _ _ _ _ _ other neither) c.name-named.ensures
