use native.Mathlib.Nat.{zero-add}
use Rattle.machine.specs.WordLaws.{lowest-zeros}
use borrow.Author.Tests.{lt-ltb, le-ltb}
use mathlib.Core.Path.{refl}
use Rattle.bits.proofs.lowest.Goals as goal

pub returns-then-zeros-lt64 : goal.returns-then-zeros-lt64
returns-then-zeros-lt64 c = rw (lowest-zeros c.args.word, lt-ltb _ 64 c.if-zeros-lt64.true, zero-add) refl

pub returns-else-zeros-lt64 : goal.returns-else-zeros-lt64
returns-else-zeros-lt64 c = rw (lowest-zeros c.args.word, le-ltb _ 64 c.if-zeros-lt64.false) refl
