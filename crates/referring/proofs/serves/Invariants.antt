use Prim.Native.Nat.{◌-◌, ◌≤◌}
use mathlib.Core.Path.{◌≡◌, sym, ◌∙◌}
use borrow.Author.Tests.{not-true, not-false}
use Rattle.referring.specs.Rows.{serves_one_in, serves_in}
use Rattle.referring.specs.RowLaws.{left, left-all, left-on, left-fails, left-none}
use borrow.Author.Rules.{rules}
use Rattle.referring.proofs.serves.Given as goal

abbrev pub invariant-loop-k : goal.invariant-loop-k
invariant-loop-k l = (l.k ≤ l.many) × (left (serves_one_in l.roles l.types l.rows l.driver l.first) l.many l.k ≡ serves_in l.roles l.types l.rows l.driver l.first l.many)

abbrev pub decreases-loop-k : goal.decreases-loop-k
decreases-loop-k l = l.many - l.k
