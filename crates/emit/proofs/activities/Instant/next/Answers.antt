use Rattle.emit.proofs.Parts.{instant-is}
use Rattle.emit.proofs.activities.Instant.next.Goals as goal

pub returns : goal.returns
returns c =
    let instant = c.args.self.now in
    instant-is instant.acts.now instant.frame instant.t _ _ _ (rw c.group.ensures.rows at c.ahead-called.ensures.soon) (rw c.group-2.ensures.rows at c.ahead-updated.ensures.soon)
    (rw c.group-3.ensures.rows at c.ahead.ensures.soon)
