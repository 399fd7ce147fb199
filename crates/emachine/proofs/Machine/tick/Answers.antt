use Rattle.std.proofs.Common.{ap, sym, ◌∙◌}
use Rattle.machine.specs.Answers.{reaction_means}
use Rattle.machine.specs.Boards.{Board}
use Rattle.machine.specs.Calls.{tick}
use Rattle.calls.specs.States.{tick-alone}
use Rattle.emachine.specs.Machines.{board_in, start_by, state_in, ticked_on}
use Rattle.emachine.specs.Meanings.{tick-means}
use Rattle.emachine.specs.declared.Ticked.{Ticked}
use Rattle.emachine.proofs.Machine.tick.Goals as goal

pub returns : goal.returns
returns c =
    let a = c.args in
    let m = a.self.now in
    let t = m.table in
    let served = ap (ticked_on t) (sym (
    c.tick_on.ensures
    ∙ ap (λ (b : Board). tick b (state_in m) a.count a.types.now a.words.now) c.program_of-program.ensures.ticks
    ∙ tick-alone t.instructions t.code t.driver_rows t.guard_rows t.mode_rows t.task_rows t.types t.starts t.sensors (start_by t.mode_rows 0 t.modes) (state_in m) a.count a.types.now a.words.now
    )) in
    record { machine = served; means = ap (λ (r : Ticked). reaction_means r.answer) (sym served) ∙ tick-means (board_in t) (state_in m) a.count a.types.now a.words.now }
