use lib.Seq.{set_out}
use Rattle.std.proofs.Common.{sym, arith}
use Rattle.cells.proofs.put8.Goals as goal

pub returns-else-i-cells : goal.returns-else-i-cells
returns-else-i-cells c = sym (set_out c.args.cells.now c.args.i c.args.number (omega arith))
