use Rattle.std.proofs.Common.{rules, arith}
use Rattle.emit.proofs.Modes.{coming-on, coming-ends, generated}
use Rattle.emit.proofs.generate.Goals as goal

pub loop-k-preserved : goal.loop-k-preserved
loop-k-preserved c =
    let loop = c.loop-k in
    let frame = c.of-frame in
    let code = c.blocks-in-loop-k.ensures.code in
    record {
      coming =
          rw c.put32.ensures
          (coming-on c.args.modes.now c.args.acts.now loop.k c.few-k-end.result loop.driver frame.result c.place.result c.loop-k-test.true frame.ensures loop.invariant.coming code c.place.ensures);
      few = omega (arith, loop.invariant.few, code.few);
      low = omega (arith, loop.invariant.low, frame.result.few_updates, frame.result.few_calls);
      same = search rules;
    }

pub returns : goal.returns
returns c =
    let loop = c.loop-k in
    let whole = coming-ends c.args.modes.now c.args.acts.now loop.k c.few-k-end.result c.loop-k-test.false loop.invariant.coming in
    let done = generated c.args.modes.now c.args.acts.now c.args.n c.args.tasks c.few-k-end.result c.few-driver.result loop.listing.pc c.args.code.now c.args.begins.now loop.listing.cells.now loop.begins c.few-k-end.ensures c.few-driver.ensures whole.0 whole.1 in
    search (rules, done)
