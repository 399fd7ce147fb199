use Rattle.std.proofs.Common.{arith, ◌≡◌}
use Rattle.writing.specs.Wrote.{wrote_of, wrote-begin, wrote-more}
use Rattle.writing.specs.Puts.{parts}
use Rattle.writing.proofs.modes.cut_code.Goals as goal

pub loop-k-init : goal.loop-k-init
loop-k-init c = wrote-begin _ _

pub loop-k-preserved : goal.loop-k-preserved
loop-k-preserved c = wrote-more _ _ c.loop-k.invariant c.instruction.ensures

pub returns : goal.returns
returns c = let e : c.loop-k.k ≡ c.args.many = omega arith in wrote_of (parts _) e c.loop-k.invariant
