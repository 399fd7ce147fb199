use Prim.Native.Nat.{◌-◌, ◌≤◌}
use mathlib.Core.Path.{◌≡◌, sym, ◌∙◌}
use borrow.Author.Tests.{not-true, not-false}
use Rattle.referring.specs.Rows.{good_begin_in, good_begins_in}
use Rattle.referring.specs.RowLaws.{left, left-all, left-on, left-fails, left-none}
use borrow.Author.Rules.{rules}
use Rattle.referring.proofs.good_begins.Goals as goal

pub loop-mode-init : goal.loop-mode-init
unfolding good_begins_in
loop-mode-init c = (search rules, left-all _ _)

pub returns-then-not-good_begin : goal.returns-then-not-good_begin
returns-then-not-good_begin c = left-fails _ _ _ c.loop-mode-test.true (sym c.good_begin.ensures ∙ c.if-not-good_begin.true) ∙ c.loop-mode.invariant.1

pub loop-mode-preserved : goal.loop-mode-preserved
loop-mode-preserved c = (search rules, left-on _ _ _ c.loop-mode-test.true (sym c.good_begin.ensures ∙ c.if-not-good_begin.false) ∙ c.loop-mode.invariant.1)

pub returns : goal.returns
returns c = left-none _ _ _ c.loop-mode-test.false ∙ c.loop-mode.invariant.1
