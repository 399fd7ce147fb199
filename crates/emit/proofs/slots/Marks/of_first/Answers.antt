use Rattle.std.proofs.Common.{◌∙◌, refl, arith}
use Rattle.std.proofs.Math.ListN.{length-set}
use Rattle.emit.proofs.Marks.{marked-begins, marked-on, marked-ends}
use Rattle.emit.proofs.slots.Marks.of_first.Goals as goal

pub loop-frequency-init : goal.loop-frequency-init
loop-frequency-init c = record { marked = marked-begins _ _ _; five = refl }

pub loop-frequency-preserved : goal.loop-frequency-preserved
loop-frequency-preserved c =
    let loop = c.loop-frequency.invariant in
    record {
      marked = marked-on _ _ _ _ _ (omega (arith, loop.five, c.loop-frequency-test.true)) loop.marked c.of.ensures;
      five = length-set _ _ _ ∙ loop.five;
    }

pub returns : goal.returns
returns c =
    let loop = c.loop-frequency.invariant in
    marked-ends _ _ _ _ (omega (arith, loop.five, c.loop-frequency-test.false)) loop.marked
