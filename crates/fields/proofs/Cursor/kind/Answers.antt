use Rattle.codec.proofs.Views.{check-no}
use Rattle.file.specs.Parts.{type}
use Rattle.fields.specs.OutcomeLaws as law
use Rattle.fields.proofs.Cursor.kind.Goals as goal

pub returns-in_err-kind-clause-reads : goal.returns-in_err-kind-clause-reads
unfolding type
returns-in_err-kind-clause-reads c = law.out _ _ _ _ _ c.from_residual.ensures.1 (check-no _ _ _ (c.in_err-kind.ensures))

pub returns-clause-reads : goal.returns-clause-reads
unfolding type
returns-clause-reads c = law.tested (λ v. v) _ _ _ (c.in_ok-kind.ensures) c.checked.ensures
