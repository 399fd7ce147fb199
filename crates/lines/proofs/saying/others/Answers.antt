use Prim.Native.Nat.{◌+◌, ◌-◌, ◌≤◌}
use mathlib.Core.List.{◌++◌}
use native.Mathlib.Omega.{arith}
use lib.ListN.{get_or}
use Rattle.lines.specs.SayingsLaws as law
use Rattle.lines.specs.Buffers.{still-begins, still-on, still-ends}
use Rattle.lines.specs.Sayings.{value_of, values_behind}
use Rattle.lines.proofs.saying.others.Goals as goal

pub loop-k-init : goal.loop-k-init
loop-k-init c = still-begins

pub loop-k-preserved : goal.loop-k-preserved
loop-k-preserved c =
    let args = c.args in
    let loop = c.loop-k in
    let types = args.types.now in
    let words = args.words.now in
    let rest = values_behind types words (loop.k + 1) (args.many - (loop.k + 1)) in
    let begun = still-on (value_of (get_or types loop.k 0) (get_or words loop.k 0) ++ rest) (rw (law.values-on types words loop.k args.many (omega arith)) at loop.invariant) c.byte-front.ensures in
    still-on rest begun (rw (c.at32.ensures, c.at32-in-loop-k.ensures) at c.value-next.ensures)

pub returns : goal.returns
returns c =
    let over : c.args.many ≤ c.loop-k.k = omega arith in
    still-ends (rw (law.values-end _ _ _ _ over) at c.loop-k.invariant)
