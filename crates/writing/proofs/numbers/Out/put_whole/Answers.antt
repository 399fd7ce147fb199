use Rattle.std.proofs.Common.{refl, arith}
use Rattle.writing.specs.Wrote.{wrote_whole}
use Rattle.writing.proofs.numbers.Out.put_whole.Goals as goal

pub returns : goal.returns
returns c = record { puts = wrote_whole c.args.self.now.buffer.now c.args.self.now.at _ c.args.bytes.now _ c.requires (omega arith) c.copy_from_slice.ensures.after; same_buffer = refl }
