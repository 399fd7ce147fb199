use Rattle.codec.proofs.Views.{check-no}
use Rattle.file.specs.Code.{word}
use Rattle.fields.specs.OutcomeLaws as law
use Rattle.fields.proofs.Cursor.second.Goals as goal

pub returns-in_err-argument : goal.returns-in_err-argument
unfolding word
returns-in_err-argument c = law.out _ _ _ _ _ c.from_residual.ensures.1 (check-no _ _ _ (c.in_err-argument.ensures))

pub returns : goal.returns
unfolding word
returns c = law.tested (λ v. v) _ _ _ (c.in_ok-argument.ensures) (rw c.fits_second.ensures at c.checked.ensures)
