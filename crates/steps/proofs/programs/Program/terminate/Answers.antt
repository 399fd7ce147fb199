use Rattle.std.proofs.Common.{refl, sym, ◌∙◌}
use Rattle.steps.specs.RowLaws.{lot-outputs, lot-results}
use Rattle.steps.proofs.programs.Program.terminate.Goals as goal

pub returns : goal.returns
returns c =
    let out = sym c.has.ensures ∙ c.if-not-has.false in
    let done = sym c.has-2.ensures ∙ c.if-not-has-2.false in
    rw (out, done, c.hand_out.ensures, c.task_cell-count.ensures, c.task_cell-to.ensures, lot-outputs, lot-results, c.part-tasks.ensures, c.part-tasks-2.ensures, out, done) refl
