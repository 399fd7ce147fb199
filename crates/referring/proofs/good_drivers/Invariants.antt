use Prim.Native.Nat.{◌-◌, ◌≤◌}
use mathlib.Core.Path.{◌≡◌, sym, ◌∙◌}
use borrow.Author.Tests.{not-true, not-false}
use Rattle.referring.specs.Rows.{good_driver_in, good_drivers_in}
use Rattle.referring.specs.RowLaws.{left, left-all, left-on, left-fails, left-none}
use borrow.Author.Rules.{rules}
use Rattle.referring.proofs.good_drivers.Given as goal

abbrev pub invariant-loop-driver : goal.invariant-loop-driver
invariant-loop-driver l = (l.driver ≤ l.many) × (left (good_driver_in l.roles l.types l.tasks l.rows l.count) l.many l.driver ≡ good_drivers_in l.roles l.types l.tasks l.rows l.count l.many)

abbrev pub decreases-loop-driver : goal.decreases-loop-driver
decreases-loop-driver l = l.many - l.driver
