use Rattle.std.proofs.Common.{sym}
use Rattle.emachine.proofs.finish.Goals as goal

pub returns : goal.returns
returns c = let served = c.finish-answer.ensures in record { machine = sym served.machine; means = served.means }
