use Prim.Native.Nat.{◌+◌, ◌*◌, ◌≤◌, ◌<◌}
use mathlib.Core.Path.{◌≡◌}
use native.Mathlib.Omega.{arith}
use lib.ListN.{drop, length}
use Rattle.lines.specs.Buffers.{still-on, still-ends, said-one}
use Rattle.lines.specs.Numbers.{bytes_of}
use Rattle.lines.specs.NumbersLaws.{bytes_on, bytes-end}
use Rattle.lines.proofs.numbers.fill.Goals as goal

pub loop-k-preserved : goal.loop-k-preserved
loop-k-preserved c =
    let word = c.args.word.now in
    let k = c.loop-k.k in
    let more : 2 * k + 1 < length word = omega arith in
    let next : 2 * k + 1 + 1 ≡ 2 * (k + 1) = omega arith in
    let inside : k < length c.loop-k.room = omega arith in
    still-on (bytes_of (drop (2 * (k + 1)) word)) (rw (bytes_on word (2 * k) more, ← c.worth.ensures.0, ← c.worth-in-loop-k.ensures.0, next) at c.loop-k.invariant) (said-one _ _ _ inside)

pub returns : goal.returns
returns c =
    let over : length c.args.word.now ≤ 2 * c.loop-k.k + 1 = omega arith in
    (still-ends (rw (bytes-end _ _ over) at c.loop-k.invariant)).held
