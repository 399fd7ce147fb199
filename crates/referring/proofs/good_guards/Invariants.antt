use Prim.Native.Nat.{◌-◌, ◌≤◌}
use mathlib.Core.Path.{◌≡◌, sym, ◌∙◌}
use borrow.Author.Tests.{not-true, not-false}
use Rattle.referring.specs.Rows.{good_guard_in, good_guards_in}
use Rattle.referring.specs.RowLaws.{left, left-all, left-on, left-fails, left-none}
use borrow.Author.Rules.{rules}
use Rattle.referring.proofs.good_guards.Given as goal

abbrev pub invariant-loop-guard : goal.invariant-loop-guard
invariant-loop-guard l = (l.guard ≤ l.many) × (left (good_guard_in l.roles l.types l.rows) l.many l.guard ≡ good_guards_in l.roles l.types l.rows l.many)

abbrev pub decreases-loop-guard : goal.decreases-loop-guard
decreases-loop-guard l = l.many - l.guard
