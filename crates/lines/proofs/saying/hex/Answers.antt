use Rattle.std.proofs.Common.{sym, ◌∙◌}
use borrow.Author.Tests.{eqb-true, eqb-false}
use Rattle.lines.specs.SayingsLaws.{hex-none, hex-some}
use Rattle.lines.proofs.saying.hex.Goals as goal

pub returns-then-is_empty : goal.returns-then-is_empty
returns-then-is_empty c = rw (hex-none _ (eqb-true _ _ (sym c.is_empty.ensures ∙ c.if-is_empty.true))) c.byte.ensures

pub returns-else-is_empty : goal.returns-else-is_empty
returns-else-is_empty c = rw (hex-some _ (eqb-false _ _ (sym c.is_empty.ensures ∙ c.if-is_empty.false))) c.pairs.ensures
