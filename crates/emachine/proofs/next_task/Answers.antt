use Rattle.std.proofs.Common.{sym}
use Rattle.emachine.proofs.next_task.Goals as goal

pub returns : goal.returns
returns c = let served = c.next_task-answer.ensures in record { machine = sym served.machine; means = served.means }
