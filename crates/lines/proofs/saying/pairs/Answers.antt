use Prim.Native.Nat.{◌+◌, ◌≤◌}
use native.Mathlib.Omega.{arith}
use lib.ListN.{length, drop, drop_of_length-le}
use Rattle.lines.specs.SayingsLaws as law
use Rattle.lines.specs.Buffers.{still-begins, still-on, still-ends}
use Rattle.lines.specs.Sayings.{pairs_of}
use Rattle.lines.proofs.saying.pairs.Goals as goal

pub loop-number-init : goal.loop-number-init
loop-number-init c = still-begins

pub loop-number-preserved : goal.loop-number-preserved
loop-number-preserved c =
    let bytes = c.args.bytes.now in
    let at = c.loop-number.number-index in
    still-on (pairs_of (drop (at + 1) bytes)) (rw (law.pairs-on bytes at (omega arith)) at c.loop-number.invariant) c.pair-next.ensures

pub returns : goal.returns
returns c =
    let bytes = c.args.bytes.now in
    let over : length bytes ≤ c.loop-number.number-index = omega arith in
    still-ends (rw (drop_of_length-le bytes over, law.pairs-none) at c.loop-number.invariant)
