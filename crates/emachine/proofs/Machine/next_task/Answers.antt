use Rattle.std.proofs.Common.{ap, sym, ◌∙◌}
use Rattle.machine.specs.Answers.{turn_means}
use Rattle.emachine.specs.Machines.{state_in, handed_on}
use Rattle.emachine.specs.Meanings.{next-means}
use Rattle.emachine.specs.declared.Handed.{Handed}
use Rattle.emachine.proofs.Machine.next_task.Goals as goal

pub returns : goal.returns
returns c =
    let m = c.args.self.now in
    let served = ap (handed_on m.table) (sym (c.next_on.ensures m.ports m.aside)) in
    record { machine = served; means = ap (λ (r : Handed). turn_means r.answer) (sym served) ∙ next-means (state_in m) }
