use lib.ListN.{get_or-eq_default}
use Rattle.std.proofs.Common.{sym, arith}
use Rattle.cells.proofs.at32.Goals as goal

pub returns-else-i-cells : goal.returns-else-i-cells
returns-else-i-cells c = sym (get_or-eq_default c.args.cells.now 0 {n = c.args.i} (omega arith))
