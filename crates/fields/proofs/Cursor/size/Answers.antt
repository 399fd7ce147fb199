use Rattle.codec.proofs.Views.{check-no}
use Rattle.fields.specs.OutcomeLaws as law
use Rattle.fields.proofs.Cursor.size.Goals as goal

pub returns-in_err-size-clause-reads : goal.returns-in_err-size-clause-reads
returns-in_err-size-clause-reads c = law.out _ _ _ _ _ c.from_residual.ensures.1 (check-no _ _ _ c.in_err-size.ensures)

pub returns-clause-reads : goal.returns-clause-reads
returns-clause-reads c = law.tested (λ v. v) _ _ _ c.in_ok-size.ensures (rw c.is_size.ensures at c.checked.ensures)
