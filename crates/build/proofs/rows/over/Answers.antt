use Rattle.std.proofs.Common.{ℕ, sym, ap, ◌∙◌}
use lib.Dec.{ltb}
use borrow.Author.Tests.{le-leb}
use Rattle.kept.specs.Rows.{fields_in, item_of}
use Rattle.build.specs.Walks.{over-behind, over_last}
use Rattle.build.proofs.ByKind.{last-kind}
use Rattle.build.proofs.rows.over.Goals as goal

pub returns-then-next-at : goal.returns-then-next-at
returns-then-next-at c row e = le-leb _ _ c.if-next-at.true ∙ over-behind (item_of (fields_in row)) _ _ c.if-next-at.true

pub returns-else-next-at : goal.returns-else-next-at
returns-else-next-at c row e = ap (λ (n : ℕ). ltb 18 n) (sym e) ∙ sym (last-kind row) ∙ over_last (item_of (fields_in row)) _ _ c.if-next-at.false
