use Prim.Native.Nat.{◌-◌, ◌≤◌}
use mathlib.Core.Path.{◌≡◌, sym, ◌∙◌}
use borrow.Author.Tests.{not-true, not-false}
use Rattle.referring.specs.Rows.{good_begin_in, good_begins_in}
use Rattle.referring.specs.RowLaws.{left, left-all, left-on, left-fails, left-none}
use borrow.Author.Rules.{rules}
use Rattle.referring.proofs.good_begins.Given as goal

abbrev pub invariant-loop-mode : goal.invariant-loop-mode
invariant-loop-mode l = (l.mode ≤ l.many) × (left (good_begin_in l.rows l.instructions) l.many l.mode ≡ good_begins_in l.rows l.instructions l.many)

abbrev pub decreases-loop-mode : goal.decreases-loop-mode
decreases-loop-mode l = l.many - l.mode
