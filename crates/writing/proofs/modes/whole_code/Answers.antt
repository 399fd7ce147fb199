use Rattle.std.proofs.Common.{arith, refl, ◌∙◌, ◌≡◌}
use Rattle.writing.specs.Wrote.{wrote_of, wrote-begin, wrote-more, wrote-room}
use Rattle.writing.specs.Puts.{parts}
use Rattle.writing.specs.Cells.{byte_of, pair_of, quad_of, instruction_at}
use Rattle.writing.proofs.modes.whole_code.Goals as goal

pub loop-k-init : goal.loop-k-init
loop-k-init c = record { at = omega arith; room = refl; wrote = wrote-begin _ _ }

pub whole_instruction-requires : goal.whole_instruction-requires
whole_instruction-requires c = let i = c.loop-k.invariant in (omega (arith, i.at, i.room), omega arith)

pub loop-k-preserved : goal.loop-k-preserved
unfolding instruction_at quad_of pair_of byte_of
loop-k-preserved c =
    let i = c.loop-k.invariant in
    let behind = wrote-room c.whole_instruction.ensures (omega (arith, i.at, i.room)) in
    record { at = omega (arith, i.at, behind.0); room = behind.1 ∙ i.room; wrote = wrote-more _ _ i.wrote c.whole_instruction.ensures }

pub returns : goal.returns
returns c = let e : c.loop-k.k ≡ c.args.many = omega arith in wrote_of (parts _) e c.loop-k.invariant.wrote
