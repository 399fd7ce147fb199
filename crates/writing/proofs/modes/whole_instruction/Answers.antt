use Rattle.std.proofs.Common.{arith}
use Rattle.writing.specs.Wrote.{wrote-both, wrote-room}
use Rattle.writing.specs.Cells.{byte_of, pair_of, quad_of, instruction_at}
use Rattle.writing.proofs.modes.whole_instruction.Goals as goal

pub whole_quad-requires : goal.whole_quad-requires
whole_quad-requires c = let behind = wrote-room c.put_whole.ensures (omega arith) in omega (arith, behind.0, behind.1)

pub whole_quad-requires-2 : goal.whole_quad-requires-2
unfolding quad_of pair_of byte_of
whole_quad-requires-2 c =
    let first = wrote-room c.put_whole.ensures (omega arith) in
    let second = wrote-room c.whole_quad.ensures (omega (arith, first.0, first.1)) in
    omega (arith, first.0, first.1, second.0, second.1)

pub returns : goal.returns
unfolding instruction_at byte_of
returns c = wrote-both c.put_whole.ensures (wrote-both c.whole_quad.ensures c.whole_quad-2.ensures)
