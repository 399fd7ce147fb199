use Rattle.codec.proofs.Views.{check-no}
use Rattle.file.specs.Parts.{value}
use Rattle.fields.specs.OutcomeLaws as law
use Rattle.fields.proofs.Cursor.value.Goals as goal

pub returns-in_err-value : goal.returns-in_err-value
unfolding value
returns-in_err-value c = law.out _ _ _ _ _ c.from_residual.ensures.1 (check-no _ _ _ (c.in_err-value.ensures))

pub returns : goal.returns
unfolding value
returns c = law.tested (λ v. v) _ _ _ (c.in_ok-value.ensures) (rw c.fits_kind.ensures at c.checked.ensures)
