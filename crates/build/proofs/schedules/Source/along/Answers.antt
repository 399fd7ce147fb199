use Rattle.std.proofs.Common.{arith}
use Rattle.build.specs.Lent.{missed}
use Rattle.build.proofs.schedules.Source.along.Goals.{then-self-walked-via-then-self-walked, then-self-walked-via-else-self-walked+then-not-is_of}
use Rattle.build.proofs.schedules.Source.along.Goals as goal

pub returns-then-self-walked-clause-ahead : goal.returns-then-self-walked-clause-ahead
returns-then-self-walked-clause-ahead c some p q within =
    let loop = c.loop-k in
    elim c.then-self-walked.branch [ then-self-walked-via-then-self-walked w ↦ omega (arith, w.if-self-walked.true, within) | then-self-walked-via-else-self-walked+then-not-is_of w ↦ missed c.args.lent.now c.args.first loop.k loop.invariant.ahead (w.is_of.ensures.1 w.if-not-is_of.true) p q ]
