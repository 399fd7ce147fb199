use mathlib.Core.Path.{sym, ◌∙◌}
use Rattle.std.proofs.lemmas.Bool.{eqb-true, eqb-false}
use Rattle.std.proofs.lemmas.Result.{err_from_is_err_and}
use Rattle.reading.specs.Framing as framing
use Rattle.reading.proofs.judged.Goals as goal

pub returns-in_err-table : goal.returns-in_err-table
returns-in_err-table c = let (y, q, e) = err_from_is_err_and c.from_residual.result c.from_residual.ensures.1 in rw (q, e) (framing.judged-no c.in_err-table.ensures)

pub returns-then-not-is_empty : goal.returns-then-not-is_empty
returns-then-not-is_empty c = framing.judged-over c.in_ok-table.ensures (eqb-false _ _ (sym c.if-not-is_empty.ensures))

pub returns-then-good : goal.returns-then-good
returns-then-good c = framing.judged-good c.in_ok-table.ensures c.requires (eqb-true _ _ (sym c.if-not-is_empty.ensures)) (sym c.if-good.ensures)

pub returns-else-good : goal.returns-else-good
returns-else-good c = framing.judged-bad c.in_ok-table.ensures c.requires (eqb-true _ _ (sym c.if-not-is_empty.ensures)) (sym c.if-good.ensures)
