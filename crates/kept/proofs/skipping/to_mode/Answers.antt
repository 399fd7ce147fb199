use Prim.Native.Nat.{◌<◌}
use lib.ListN.{get_or}
use Rattle.kept.specs.Skips.{here, skip-on}
use native.Mathlib.Omega.{arith}
use Rattle.kept.proofs.skipping.to_mode.Goals as goal

pub loop-item-init : goal.loop-item-init
loop-item-init c = λ s kept. here

pub loop-item-preserved : goal.loop-item-preserved
loop-item-preserved c = λ s kept.
    let loop = c.loop-item in
    let below : loop.item < get_or c.args.memo.now 0 0 = omega (arith, c.held-item-end.ensures, c.loop-item-test.true) in
    skip-on loop.item kept below (c.is_quiet.ensures c.if-not-is_quiet.false) (loop.invariant s kept)
