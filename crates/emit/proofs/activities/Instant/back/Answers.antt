use Rattle.std.proofs.Common.{refl, arith}
use Rattle.emit.proofs.Emission.{called}
use Rattle.emit.proofs.Parts.{backed}
use Rattle.emit.proofs.activities.Instant.back.Goals as goal

pub returns-clause-code : goal.returns-clause-code
returns-clause-code c =
    let instant = c.args.self.now in
    called refl (omega (arith, instant.frame.few_calls))
    (backed instant.acts.now instant.frame instant.t c.args.distance (rw c.group.ensures.rows at c.run-behind.ensures.code) c.put.ensures.code c.put-2.ensures.code)
