use Rattle.std.proofs.Common.{refl, arith}
use Rattle.writing.specs.Puts.{puts-out}
use Rattle.writing.specs.Wrote.{wrote_cut}
use Rattle.writing.proofs.numbers.Out.put.Goals as goal

pub returns-in_default : goal.returns-in_default
returns-in_default c = record { puts = puts-out _ (omega (arith, c.in_default.ensures)); same_buffer = refl }

pub returns-else-bytes-room : goal.returns-else-bytes-room
returns-else-bytes-room c = let w = c.put_whole-else-bytes-room.ensures in record { puts = wrote_cut c.args.bytes.now (omega (arith, c.in-Some.ensures)) (omega arith) w.puts; same_buffer = w.same_buffer }
