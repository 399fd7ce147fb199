use Rattle.std.proofs.Common.{arith, [], ◌∷◌, ◌+◌, ◌%◌, ◌≡◌}
use Rattle.writing.specs.Wrote.{wrote-begin, wrote-more, wrote_of}
use Rattle.writing.specs.Cells.{cell, byte_of, letters_in}
use Rattle.writing.proofs.numbers.Out.cut_name.Goals as goal

pub loop-k-init : goal.loop-k-init
loop-k-init c = wrote-begin _ _

pub loop-k-preserved : goal.loop-k-preserved
unfolding byte_of
loop-k-preserved c =
    let e : c.at8.result ≡ cell c.args.names.now (c.args.first + c.loop-k.k) % 256 = omega (arith, c.at8.ensures) in
    wrote-more _ _ c.loop-k.invariant (wrote_of (λ n. n ∷ []) e c.put.ensures)

pub returns : goal.returns
returns c = let e : c.loop-k.k ≡ c.args.many = omega arith in wrote_of (letters_in c.args.names.now c.args.first) e c.loop-k.invariant
