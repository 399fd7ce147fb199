use Rattle.std.proofs.Common.{sym}
use Rattle.emachine.proofs.tick.Goals as goal

pub returns : goal.returns
returns c = let served = c.tick-answer.ensures in record { machine = sym served.machine; means = served.means }
