use Rattle.std.proofs.Common.{rules, arith}
use Rattle.emit.proofs.Going.{going_on, going-ends}
use Rattle.emit.proofs.activities.Instant.run.Goals as goal

pub loop-i-preserved : goal.loop-i-preserved
loop-i-preserved c =
    let group = c.args.group in
    let loop = c.loop-i in
    let turn = c.turn-next in
    record {
      going =
          going_on group.kind c.args.self.now.frame.period c.args.self.now.t c.args.self.now.acts.now group.row group.driver loop.i group.count loop.next turn.result
          c.loop-i-test.true loop.invariant.going turn.ensures.code turn.ensures.soon;
      on = omega (arith, loop.invariant.on, turn.ensures.code.on);
      few = omega (arith, loop.invariant.few, turn.ensures.code.few);
      soon = omega (arith, loop.invariant.soon, turn.ensures.sooner);
      same = search rules;
    }

pub returns-clause-code : goal.returns-clause-code
returns-clause-code c =
    let loop = c.loop-i in
    let whole =
    going-ends c.args.group.kind c.args.self.now.frame.period c.args.self.now.t c.args.self.now.acts.now c.args.group.row c.args.group.driver loop.i c.args.group.count
    c.loop-i-test.false loop.invariant.going in
    record { code = whole.0; few = omega (arith, loop.invariant.few); on = loop.invariant.on }

pub returns-clause-soon : goal.returns-clause-soon
returns-clause-soon c =
    let loop = c.loop-i in
    let whole =
    going-ends c.args.group.kind c.args.self.now.frame.period c.args.self.now.t c.args.self.now.acts.now c.args.group.row c.args.group.driver loop.i c.args.group.count
    c.loop-i-test.false loop.invariant.going in
    whole.1
