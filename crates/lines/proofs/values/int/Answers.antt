use Rattle.std.proofs.Common.{sym, ◌∙◌}
use Rattle.lines.specs.ValuesLaws as law
use Rattle.lines.proofs.values.int.Goals as goal

pub returns-in_ok-decimal : goal.returns-in_ok-decimal
returns-in_ok-decimal c = rw c.negative.ensures (law.int-minus _ (sym c.at8.ensures ∙ c.if-at8-eq45.true) _ c.in_ok-decimal.ensures)

pub returns-in_err-decimal : goal.returns-in_err-decimal
returns-in_err-decimal c = c.from_residual.ensures ∙ law.int-minus-none _ (sym c.at8.ensures ∙ c.if-at8-eq45.true) c.in_err-decimal.ensures

pub returns-in_ok-decimal-2 : goal.returns-in_ok-decimal-2
returns-in_ok-decimal-2 c = rw c.positive.ensures (law.int-plus _ (λ e. c.if-at8-eq45.false (c.at8.ensures ∙ e)) _ c.in_ok-decimal-2.ensures)

pub returns-in_err-decimal-2 : goal.returns-in_err-decimal-2
returns-in_err-decimal-2 c = c.from_residual-in_err-decimal-2.ensures ∙ law.int-plus-none _ (λ e. c.if-at8-eq45.false (c.at8.ensures ∙ e)) c.in_err-decimal-2.ensures
