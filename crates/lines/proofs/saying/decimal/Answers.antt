use Rattle.lines.specs.SayingsLaws as law
use Rattle.lines.proofs.saying.decimal.Goals as goal

pub returns : goal.returns
returns c = rw (← law.digits-part c.counted-from.ensures) c.text.ensures
