use Rattle.codec.proofs.Views.{check-no}
use Rattle.fields.specs.OutcomeLaws as law
use Rattle.fields.proofs.Cursor.time.Goals as goal

pub returns-in_err-time : goal.returns-in_err-time
returns-in_err-time c = law.out _ _ _ _ _ c.from_residual.ensures.1 (check-no _ _ _ (c.in_err-time.ensures))

pub returns : goal.returns
returns c = law.tested (λ v. v) _ _ _ (c.in_ok-time.ensures) (rw c.is_time.ensures at c.checked.ensures)
