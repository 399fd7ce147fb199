use Rattle.std.proofs.Common.{◌∙◌}
use Rattle.codec.proofs.Views.{check-no}
use Rattle.codec.proofs.Lists.{list-no, list_on}
use Rattle.file.specs.Names.{name}
use Rattle.fields.specs.OutcomeLaws as law
use Rattle.fields.proofs.Cursor.name.Goals as goal

pub returns-in_err-size-clause-reads : goal.returns-in_err-size-clause-reads
unfolding name
returns-in_err-size-clause-reads c = law.out _ _ _ _ _ c.from_residual.ensures.1 (check-no _ _ _ (list-no _ _ c.in_err-size.ensures.reads))

pub returns-in_err-word-clause-reads : goal.returns-in_err-word-clause-reads
unfolding name
returns-in_err-word-clause-reads c = law.out _ _ _ _ _ c.from_residual-in_err-word.ensures.1 (check-no _ _ _ (list_on _ _ c.in_ok-size.ensures.reads ∙ c.in_err-word.ensures.reads))

pub returns-clause-reads : goal.returns-clause-reads
unfolding name
returns-clause-reads c = law.tested (λ w. w.now) _ _ _ (list_on _ _ c.in_ok-size.ensures.reads ∙ c.in_ok-word.ensures.reads) (rw c.good_name.ensures at c.checked.ensures)
