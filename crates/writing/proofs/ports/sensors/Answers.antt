use Rattle.std.proofs.Common.{arith, ◌≡◌, min}
use Rattle.writing.specs.Wrote.{wrote-both, wrote_of, wrote-begin, wrote-more}
use Rattle.writing.specs.Puts.{parts}
use Rattle.writing.specs.Cells.{sensors_in}
use Rattle.writing.proofs.ports.sensors.Goals as goal

pub loop-k-init : goal.loop-k-init
loop-k-init c = wrote-begin _ _

pub loop-k-preserved : goal.loop-k-preserved
loop-k-preserved c = wrote-more _ _ c.loop-k.invariant c.sensor.ensures

pub returns : goal.returns
unfolding sensors_in
returns c = let e : c.loop-k.k ≡ min c.args.t.now.counts.sensors 32 = omega arith in wrote-both c.pair.ensures (wrote_of (parts _) e c.loop-k.invariant)
