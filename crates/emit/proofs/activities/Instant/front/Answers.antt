use Rattle.std.proofs.Common.{refl, arith}
use Rattle.emit.proofs.Emission.{called}
use Rattle.emit.proofs.Parts.{fronted, instant-is}
use Rattle.emit.proofs.activities.Instant.front.Goals as goal

pub returns-clause-code : goal.returns-clause-code
returns-clause-code c =
    let instant = c.args.self.now in
    called refl (omega (arith, instant.frame.few_calls, instant.frame.few_updates, instant.frame.few_switches))
    (fronted instant.acts.now instant.frame instant.t (rw c.group.ensures.rows at c.run-ended.ensures.code) c.put.ensures.code (rw c.group-2.ensures.rows at c.run-updated.ensures.code)
    c.put-2.ensures.code (rw c.group-3.ensures.rows at c.run.ensures.code))

pub returns-clause-soon : goal.returns-clause-soon
returns-clause-soon c =
    let instant = c.args.self.now in
    instant-is instant.acts.now instant.frame instant.t _ _ _ (rw c.group.ensures.rows at c.run-ended.ensures.soon) (rw c.group-2.ensures.rows at c.run-updated.ensures.soon)
    (rw c.group-3.ensures.rows at c.run.ensures.soon)
