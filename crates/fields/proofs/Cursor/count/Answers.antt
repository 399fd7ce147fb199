use Rattle.codec.proofs.Views.{check-no}
use Rattle.file.specs.Parts.{count}
use Rattle.fields.specs.OutcomeLaws as law
use Rattle.fields.proofs.Cursor.count.Goals as goal

pub returns-in_err-count-clause-reads : goal.returns-in_err-count-clause-reads
unfolding count
returns-in_err-count-clause-reads c = law.out _ _ _ _ _ c.from_residual.ensures.1 (check-no _ _ _ (c.in_err-count.ensures))

pub returns-clause-reads : goal.returns-clause-reads
unfolding count
returns-clause-reads c = law.tested (λ v. v) _ _ _ (c.in_ok-count.ensures) c.checked.ensures
