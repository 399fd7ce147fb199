use Prim.Native.Nat.{◌-◌}
use mathlib.Core.Path.{◌≡◌}
use lib.ListN.{length}
use Rattle.kept.specs.Rows.{state_of}
use Rattle.kept.specs.KeptLaws.{behind-keeps, keeps-kept}
use native.Mathlib.Omega.{arith}
use Rattle.kept.proofs.pass.syntax.Goals as goal

pub returns : goal.returns
unfolding state_of
returns c =
    let memo = c.args.memo.now in
    let rows = c.walk-passed.new.rows in
    let long : length rows ≡ length memo - 16 = omega arith in
    let keeps = behind-keeps memo rows _ long (omega (arith, c.if-memo-lt32.false)) (c.walk-passed.ensures.listed (omega arith) (omega arith)) in
    record { answer = c.walk-passed.ensures.told (omega arith) (omega arith); kept = keeps-kept keeps; items = keeps }

pub returns-then-memo-lt32-clause-answer : goal.returns-then-memo-lt32-clause-answer
unfolding state_of
returns-then-memo-lt32-clause-answer c = c.walk.ensures.told (omega arith) (omega arith)
