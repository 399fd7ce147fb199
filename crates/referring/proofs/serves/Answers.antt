use Prim.Native.Nat.{◌-◌, ◌≤◌}
use mathlib.Core.Path.{◌≡◌, sym, ◌∙◌}
use borrow.Author.Tests.{not-true, not-false}
use Rattle.referring.specs.Rows.{serves_one_in, serves_in}
use Rattle.referring.specs.RowLaws.{left, left-all, left-on, left-fails, left-none}
use borrow.Author.Rules.{rules}
use Rattle.referring.proofs.serves.Goals as goal

pub loop-k-init : goal.loop-k-init
unfolding serves_in
loop-k-init c = (search rules, left-all _ _)

pub returns-then-not-serves_one : goal.returns-then-not-serves_one
returns-then-not-serves_one c = left-fails _ _ _ c.loop-k-test.true (sym c.serves_one.ensures ∙ c.if-not-serves_one.true) ∙ c.loop-k.invariant.1

pub loop-k-preserved : goal.loop-k-preserved
loop-k-preserved c = (search rules, left-on _ _ _ c.loop-k-test.true (sym c.serves_one.ensures ∙ c.if-not-serves_one.false) ∙ c.loop-k.invariant.1)

pub returns : goal.returns
returns c = left-none _ _ _ c.loop-k-test.false ∙ c.loop-k.invariant.1
