use Rattle.std.proofs.Common.{arith, ap, ◌∙◌, ◌≡◌, length, take}
use Rattle.std.proofs.Math.Seq.{take-length}
use Rattle.writing.specs.Wrote.{wrote_as, wrote-none, wrote_one}
use Rattle.writing.proofs.numbers.Out.put_singly.Goals as goal

pub loop-k-init : goal.loop-k-init
loop-k-init c = wrote-none _

pub loop-k-preserved : goal.loop-k-preserved
loop-k-preserved c = wrote_one c.args.bytes.now c.loop-k.k c.loop-k-test.true c.loop-k.invariant c.put.ensures

pub returns : goal.returns
returns c =
    let bytes = c.args.bytes.now in
    let e : c.loop-k.k ≡ length bytes = omega arith in
    wrote_as (ap (λ n. take n bytes) e ∙ take-length bytes) c.loop-k.invariant
