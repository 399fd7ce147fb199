use Rattle.std.proofs.Common.{ap, sym, ◌∙◌}
use Rattle.machine.specs.Answers.{finishing_means}
use Rattle.calls.specs.States.{finish-alone}
use Rattle.emachine.specs.Machines.{board_in, start_by, state_in, finished_on}
use Rattle.emachine.specs.Meanings.{finish-means}
use Rattle.emachine.specs.declared.Finished.{Finished}
use Rattle.emachine.proofs.Machine.finish.Goals as goal

pub returns : goal.returns
returns c =
    let a = c.args in
    let m = a.self.now in
    let t = m.table in
    let served = ap (finished_on t) (sym (
    c.finish_on.ensures m.ports
    ∙ finish-alone t.instructions t.code t.driver_rows t.guard_rows t.mode_rows t.task_rows t.types t.starts t.sensors (start_by t.mode_rows 0 t.modes) (state_in m) a.task a.types.now a.words.now
    )) in
    record { machine = served; means = ap (λ (r : Finished). finishing_means r.answer) (sym served) ∙ finish-means (board_in t) (state_in m) a.task a.types.now a.words.now }
