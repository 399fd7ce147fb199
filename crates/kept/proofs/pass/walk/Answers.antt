use Prim.Native.Nat.{◌+◌, ◌-◌}
use mathlib.Core.Path.{◌≡◌, ◌∙◌, refl}
use lib.ListN.{length}
use Rattle.kept.specs.KeptLaws.{lent_length}
use Rattle.kept.specs.Passes.{walk_begins, walk-goes-on, walk-stops, walk_ends}
use native.Mathlib.Omega.{arith}
use Rattle.kept.proofs.pass.walk.Goals as goal

pub loop-init : goal.loop-init
loop-init c =
    let all : c.args.turns - 0 ≡ c.args.turns = omega arith in
    record { walking = rw all (walk_begins _ _ _ _ _ c.requires); size = refl; room = c.requires }

pub returns-then-turn-gt18 : goal.returns-then-turn-gt18
returns-then-turn-gt18 c =
    let args = c.args in
    let loop = c.loop in
    let row = c.read-turn.new.row in
    let long : length row ≡ 16 = omega arith in
    walk-stops args.s.now args.state args.place args.turns loop.rows row loop.many loop.number loop.at (args.turns - loop.counter) long loop.invariant.walking (omega arith) c.read-turn.ensures c.if-turn-gt18.true c.ending.ensures

pub loop-preserved : goal.loop-preserved
loop-preserved c =
    let args = c.args in
    let loop = c.loop in
    let row = c.read-turn.new.row in
    let long : length row ≡ 16 = omega arith in
    let same = lent_length loop.rows row loop.many long loop.invariant.room in
    let less : args.turns - (loop.counter + 1) ≡ args.turns - loop.counter - 1 = omega arith in
    record {
      walking = rw less (walk-goes-on args.s.now args.state args.place args.turns loop.rows row loop.many loop.number loop.at (args.turns - loop.counter) long loop.invariant.walking (omega arith) c.read-turn.ensures c.if-turn-gt18.false (c.min-many.ensures ∙ rw same));
      size = same ∙ loop.invariant.size;
      room = omega (arith, same, loop.invariant.room, c.min-many.ensures);
    }

pub returns : goal.returns
returns c = walk_ends _ _ _ _ c.loop.invariant.walking (omega arith)
