use Prim.Native.Nat.{◌-◌, ◌≤◌}
use mathlib.Core.Path.{◌≡◌, sym, ◌∙◌}
use borrow.Author.Tests.{not-true, not-false}
use Rattle.referring.specs.Rows.{good_line_in, good_code_in}
use Rattle.referring.specs.RowLaws.{left, left-all, left-on, left-fails, left-none}
use borrow.Author.Rules.{rules}
use Rattle.referring.proofs.good_code.Given as goal

abbrev pub invariant-loop-line : goal.invariant-loop-line
invariant-loop-line l = (l.line ≤ l.instructions) × (left (good_line_in l.rows l.instructions l.drivers l.tasks l.guards l.modes) l.instructions l.line ≡ good_code_in l.rows l.instructions l.drivers l.tasks l.guards l.modes)

abbrev pub decreases-loop-line : goal.decreases-loop-line
decreases-loop-line l = l.instructions - l.line
