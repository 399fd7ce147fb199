-- The machine as one record: start, tick, next task, finish, look and the number of tasks out.
use Rattle.std.specs.Prelude.{◌≡◌, refl, List, []}
use Rattle.std.proofs.Common.{sym, ap, ◌∙◌}
use Rattle.settled.specs.Settled.{Settled, SettledAs}
use Rattle.starting.specs.Starting.{started-once}
use Rattle.starting.proofs.start.Kinds as start
use Rattle.starting.proofs.start.Reads as start-reads
use Rattle.emachine.proofs.start_on.Kinds as start-on
use Rattle.emachine.proofs.start_on.Reads as start-on-reads
use Rattle.emachine.proofs.tick.Kinds as tick
use Rattle.emachine.proofs.tick.Reads as tick-reads
use Rattle.emachine.proofs.next_task.Kinds as next-task
use Rattle.emachine.proofs.next_task.Reads as next-task-reads
use Rattle.emachine.proofs.finish.Kinds as finish
use Rattle.emachine.proofs.finish.Reads as finish-reads
use Rattle.emachine.specs.declared.Ticked.{Ticked}
use Rattle.emachine.specs.declared.Handed.{Handed}
use Rattle.emachine.specs.declared.Finished.{Finished}
use Rattle.emachine.proofs.Machine.tick.Kinds as machine-tick
use Rattle.emachine.proofs.Machine.tick.Reads as machine-tick-reads
use Rattle.emachine.proofs.Machine.next_task.Kinds as machine-next
use Rattle.emachine.proofs.Machine.next_task.Reads as machine-next-reads
use Rattle.emachine.proofs.Machine.finish.Kinds as machine-finish
use Rattle.emachine.proofs.Machine.finish.Reads as machine-finish-reads
use Rattle.emachine.proofs.Machine.look.Kinds as machine-look
use Rattle.emachine.proofs.Machine.look.Reads as machine-look-reads
use Rattle.emachine.proofs.look.Kinds as look
use Rattle.emachine.proofs.look.Reads as look-reads
use Rattle.emachine.proofs.tasks_out.Kinds as tasks-out
use Rattle.emachine.proofs.tasks_out.Reads as tasks-out-reads
use Rattle.native.proofs.native_ticks.Kinds as native-ticks
use Rattle.native.proofs.native_ticks.Reads as native-ticks-reads

pub start-settled : Settled start.ps start.r start-reads.Post
start-settled κs arguments one other held kept p q = (started-once _ _ _ _ one other p.0 q.0, refl)

pub start-on-settled : Settled start-on.ps start-on.r start-on-reads.Post
start-on-settled κs arguments one other held kept p q = (p.0 ∙ sym q.0, refl)

pub tick-settled : Settled tick.ps tick.r tick-reads.Post
tick-settled κs arguments one other held kept p q = (p.0 ∙ sym q.0, refl)

pub next-task-settled : Settled next-task.ps next-task.r next-task-reads.Post
next-task-settled κs arguments one other held kept p q = (p.0 ∙ sym q.0, refl)

pub finish-settled : Settled finish.ps finish.r finish-reads.Post
finish-settled κs arguments one other held kept p q = (p.0 ∙ sym q.0, refl)

pub look-settled : Settled look.ps look.r look-reads.Post
look-settled κs arguments one other held kept p q = (p ∙ sym q, refl)

-- ---- the same calls of a machine where it lies

pub machine-tick-settled : Settled machine-tick.ps machine-tick.r machine-tick-reads.Post
machine-tick-settled κs arguments one other held kept p q =
    let same = sym p.0 ∙ q.0 in
    (ap (λ (t : Ticked). t.answer) same, λ i. ((same i).machine, (tt, (tt, (tt, tt)))))

pub machine-next-settled : Settled machine-next.ps machine-next.r machine-next-reads.Post
machine-next-settled κs arguments one other held kept p q =
    let same = sym p.0 ∙ q.0 in
    (ap (λ (t : Handed). t.answer) same, λ i. ((same i).machine, tt))

pub machine-finish-settled : Settled machine-finish.ps machine-finish.r machine-finish-reads.Post
machine-finish-settled κs arguments one other held kept p q =
    let same = sym p.0 ∙ q.0 in
    (ap (λ (t : Finished). t.answer) same, λ i. ((same i).machine, (tt, (tt, (tt, tt)))))

pub machine-look-settled : SettledAs machine-look.ps machine-look.r (λ κs answer. answer.now) machine-look-reads.Post
machine-look-settled κs arguments one other held kept p q = (p ∙ sym q, refl)

pub tasks-out-settled : Settled tasks-out.ps tasks-out.r tasks-out-reads.Post
tasks-out-settled κs arguments one other held kept p q = (p ∙ sym q, refl)

pub native-ticks-settled : Settled native-ticks.ps native-ticks.r native-ticks-reads.Post
native-ticks-settled κs arguments one other held kept p q = (p ∙ sym q, refl)
