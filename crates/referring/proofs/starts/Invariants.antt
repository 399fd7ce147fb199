use Prim.Native.Nat.{◌+◌, ◌-◌, ◌*◌, ◌≤◌}
use mathlib.Core.Path.{◌≡◌}
use native.Mathlib.Omega.{arith}
use Rattle.referring.specs.Rows.{start_in, starts_in}
use Rattle.referring.specs.RowLaws.{rest, rest_all, rest-on, rest-none}
use borrow.Author.Rules.{rules}
use Rattle.referring.proofs.starts.Given as goal

abbrev pub invariant-loop-mode : goal.invariant-loop-mode
invariant-loop-mode l = (l.mode ≤ l.many) × (l.sum ≤ l.mode * 4294967295) × (l.sum + rest (start_in l.rows) l.many l.mode ≡ starts_in l.rows l.many)

abbrev pub decreases-loop-mode : goal.decreases-loop-mode
decreases-loop-mode l = l.many - l.mode
