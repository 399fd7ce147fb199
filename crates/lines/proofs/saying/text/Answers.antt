use Prim.Native.Nat.{◌+◌, ◌≤◌}
use native.Mathlib.Omega.{arith}
use lib.ListN.{length, drop, drop_of_length-le}
use Rattle.text.proofs.SpacesLaws.{drop-step}
use Rattle.lines.specs.Buffers.{still-begins, still-on, still-ends}
use Rattle.lines.proofs.saying.text.Goals as goal

pub loop-letter-init : goal.loop-letter-init
loop-letter-init c = still-begins

pub loop-letter-preserved : goal.loop-letter-preserved
loop-letter-preserved c =
    let word = c.args.word.now in
    let at = c.loop-letter.letter-index in
    still-on (drop (at + 1) word) (rw (drop-step word at (omega arith)) at c.loop-letter.invariant) c.byte-next.ensures

pub returns : goal.returns
returns c =
    let word = c.args.word.now in
    let over : length word ≤ c.loop-letter.letter-index = omega arith in
    still-ends (rw (drop_of_length-le word over) at c.loop-letter.invariant)
