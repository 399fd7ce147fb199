use Rattle.std.proofs.Common.{◌<◌, refl, rules, arith}
use Rattle.timing.specs.InstantLaws.{next_le, next-after}
use Rattle.emit.specs.Frames.{mode_in}
use Rattle.emit.proofs.Parts.{period-is}
use Rattle.emit.proofs.Instants.{left-begins, left-on, left-ends}
use Rattle.emit.proofs.frames.Frame.later.Goals as goal

pub loop-t-init : goal.loop-t-init
loop-t-init c =
    let mode = mode_in c.args.acts.now c.args.self in
    record {
      left = left-begins _ _ _ _ _ c.requires.2;
      on = omega arith;
      few = omega arith;
      inside = omega (arith, c.requires.2, next_le mode 0, period-is c.args.acts.now c.args.self);
      same = refl;
    }

pub loop-t-smaller : goal.loop-t-smaller
loop-t-smaller c =
    let mode = mode_in c.args.acts.now c.args.self in
    let soon = rw (c.new.ensures.rows, c.new.ensures.frame, c.new.ensures.t) at c.block-t.ensures.soon in
    omega (arith, soon, next-after mode c.loop-t.t (rw (period-is c.args.acts.now c.args.self) c.loop-t-test.true), c.loop-t-test.true)

pub loop-t-preserved : goal.loop-t-preserved
loop-t-preserved c =
    let mode = mode_in c.args.acts.now c.args.self in
    let lt : c.loop-t.t < mode.period = rw (period-is c.args.acts.now c.args.self) c.loop-t-test.true in
    let loop = c.loop-t.invariant in
    let soon = rw (c.new.ensures.rows, c.new.ensures.frame, c.new.ensures.t) at c.block-t.ensures.soon in
    let code = rw (c.new.ensures.rows, c.new.ensures.frame, c.new.ensures.t) at c.block-t.ensures.code in
    record {
      left = rw soon (left-on c.args.self.driver mode c.args.begin c.loop-t.t lt loop.left code);
      on = omega (arith, loop.on, code.on);
      few = omega (arith, loop.few, code.few, soon, next-after mode c.loop-t.t lt);
      inside = omega (arith, soon, next_le mode c.loop-t.t, period-is c.args.acts.now c.args.self);
      same = search rules;
    }

pub returns-clause-code : goal.returns-clause-code
returns-clause-code c =
    let mode = mode_in c.args.acts.now c.args.self in
    let loop = c.loop-t.invariant in
    let code = rw (c.new-2.ensures.rows, c.new-2.ensures.frame, c.new-2.ensures.t) at c.front.ensures.code in
    let jump = c.put.ensures.code in
    record {
      code = left-ends c.args.self.driver mode c.args.begin c.loop-t.t c.args.self.period (period-is c.args.acts.now c.args.self) c.loop-t-test.false loop.left code jump;
      few = omega (arith, c.args.self.short, loop.few, loop.inside, code.few, jump.one_more);
      on = omega (arith, loop.on, code.on, jump.one_more);
    }
