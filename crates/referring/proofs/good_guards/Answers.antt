use Prim.Native.Nat.{◌-◌, ◌≤◌}
use mathlib.Core.Path.{◌≡◌, sym, ◌∙◌}
use borrow.Author.Tests.{not-true, not-false}
use Rattle.referring.specs.Rows.{good_guard_in, good_guards_in}
use Rattle.referring.specs.RowLaws.{left, left-all, left-on, left-fails, left-none}
use borrow.Author.Rules.{rules}
use Rattle.referring.proofs.good_guards.Goals as goal

pub loop-guard-init : goal.loop-guard-init
unfolding good_guards_in
loop-guard-init c = (search rules, left-all _ _)

pub returns-then-not-good_guard : goal.returns-then-not-good_guard
returns-then-not-good_guard c = left-fails _ _ _ c.loop-guard-test.true (sym c.good_guard.ensures ∙ c.if-not-good_guard.true) ∙ c.loop-guard.invariant.1

pub loop-guard-preserved : goal.loop-guard-preserved
loop-guard-preserved c = (search rules, left-on _ _ _ c.loop-guard-test.true (sym c.good_guard.ensures ∙ c.if-not-good_guard.false) ∙ c.loop-guard.invariant.1)

pub returns : goal.returns
returns c = left-none _ _ _ c.loop-guard-test.false ∙ c.loop-guard.invariant.1
