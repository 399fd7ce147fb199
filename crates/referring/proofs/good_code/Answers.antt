use Prim.Native.Nat.{◌-◌, ◌≤◌}
use mathlib.Core.Path.{◌≡◌, sym, ◌∙◌}
use borrow.Author.Tests.{not-true, not-false}
use Rattle.referring.specs.Rows.{good_line_in, good_code_in}
use Rattle.referring.specs.RowLaws.{left, left-all, left-on, left-fails, left-none}
use borrow.Author.Rules.{rules}
use Rattle.referring.proofs.good_code.Goals as goal

pub loop-line-init : goal.loop-line-init
unfolding good_code_in
loop-line-init c = (search rules, left-all _ _)

pub returns-then-not-good_line : goal.returns-then-not-good_line
returns-then-not-good_line c = left-fails _ _ _ c.loop-line-test.true (sym c.good_line.ensures ∙ c.if-not-good_line.true) ∙ c.loop-line.invariant.1

pub loop-line-preserved : goal.loop-line-preserved
loop-line-preserved c = (search rules, left-on _ _ _ c.loop-line-test.true (sym c.good_line.ensures ∙ c.if-not-good_line.false) ∙ c.loop-line.invariant.1)

pub returns : goal.returns
returns c = left-none _ _ _ c.loop-line-test.false ∙ c.loop-line.invariant.1
