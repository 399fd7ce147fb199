use Rattle.std.proofs.Common.{arith, ◌≡◌, min}
use Rattle.writing.specs.Wrote.{wrote-both, wrote_of, wrote-begin, wrote-more}
use Rattle.writing.specs.Puts.{parts}
use Rattle.writing.specs.Cells.{guards_in}
use Rattle.writing.proofs.guards.guards.Goals as goal

pub loop-k-init : goal.loop-k-init
loop-k-init c = wrote-begin _ _

pub loop-k-preserved : goal.loop-k-preserved
loop-k-preserved c = wrote-more _ _ c.loop-k.invariant c.guard.ensures

pub returns : goal.returns
unfolding guards_in
returns c = let e : c.loop-k.k ≡ min c.args.t.now.counts.guards 256 = omega arith in wrote-both c.pair.ensures (wrote_of (parts _) e c.loop-k.invariant)
