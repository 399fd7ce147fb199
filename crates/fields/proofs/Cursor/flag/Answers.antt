use Rattle.codec.proofs.Views.{check-no}
use Rattle.fields.specs.OutcomeLaws as law
use Rattle.fields.proofs.Cursor.flag.Goals as goal

pub returns-in_err-start : goal.returns-in_err-start
returns-in_err-start c = law.out _ _ _ _ _ c.from_residual.ensures.1 (check-no _ _ _ (c.in_err-start.ensures))

pub returns : goal.returns
returns c = law.tested (λ v. v) _ _ _ (c.in_ok-start.ensures) c.checked.ensures
