use Rattle.std.proofs.Common.{◌∙◌}
use Rattle.lines.specs.NumbersLaws as law
use Rattle.lines.proofs.numbers.small.Goals as goal

pub returns-in_err-decimal : goal.returns-in_err-decimal
returns-in_err-decimal c = c.from_residual.ensures ∙ law.small-none _ c.in_err-decimal.ensures

pub returns : goal.returns
returns c = law.fits-ok _ _ c.try_from.ensures c.ok.ensures.value ∙ law.small-some _ _ c.in_ok-decimal.ensures
