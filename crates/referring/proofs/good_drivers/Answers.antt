use Prim.Native.Nat.{◌-◌, ◌≤◌}
use mathlib.Core.Path.{◌≡◌, sym, ◌∙◌}
use borrow.Author.Tests.{not-true, not-false}
use Rattle.referring.specs.Rows.{good_driver_in, good_drivers_in}
use Rattle.referring.specs.RowLaws.{left, left-all, left-on, left-fails, left-none}
use borrow.Author.Rules.{rules}
use Rattle.referring.proofs.good_drivers.Goals as goal

pub loop-driver-init : goal.loop-driver-init
unfolding good_drivers_in
loop-driver-init c = (search rules, left-all _ _)

pub returns-then-not-good_driver : goal.returns-then-not-good_driver
returns-then-not-good_driver c = left-fails _ _ _ c.loop-driver-test.true (sym c.good_driver.ensures ∙ c.if-not-good_driver.true) ∙ c.loop-driver.invariant.1

pub loop-driver-preserved : goal.loop-driver-preserved
loop-driver-preserved c = (search rules, left-on _ _ _ c.loop-driver-test.true (sym c.good_driver.ensures ∙ c.if-not-good_driver.false) ∙ c.loop-driver.invariant.1)

pub returns : goal.returns
returns c = left-none _ _ _ c.loop-driver-test.false ∙ c.loop-driver.invariant.1
