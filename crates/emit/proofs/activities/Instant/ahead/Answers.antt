use Rattle.std.proofs.Common.{◌+◌, arith}
use Rattle.emit.proofs.Going.{next-end, soon-on, soon-ends}
use Rattle.emit.proofs.Marks.{near-is}
use Rattle.emit.proofs.activities.Instant.ahead.Goals as goal

pub loop-i-preserved : goal.loop-i-preserved
loop-i-preserved c =
    let acts = c.args.self.now.acts.now in
    let period = c.args.self.now.frame.period in
    let t = c.args.self.now.t in
    let group = c.args.group in
    let loop = c.loop-i in
    let near = near-is c.marks.ensures loop.next c.min-next.result (omega (arith, loop.invariant.soon)) (omega arith) in
    record {
      ends =
          soon-on acts period t group.row loop.i group.count loop.next c.min-next.result _ c.loop-i-test.true loop.invariant.ends
          (next-end acts period t (group.row + loop.i) c.at32-frequency.result c.at32-frequency.ensures loop.next c.min-next.result near);
      soon = omega (arith, loop.invariant.soon);
    }

pub returns-clause-soon : goal.returns-clause-soon
returns-clause-soon c =
    soon-ends c.args.self.now.acts.now c.args.self.now.frame.period c.args.self.now.t c.args.group.row c.loop-i.i c.args.group.count c.loop-i.next _ c.loop-i-test.false c.loop-i.invariant.ends
