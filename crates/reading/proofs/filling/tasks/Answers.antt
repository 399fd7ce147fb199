use mathlib.Core.Path.{refl}
use Rattle.fields.specs.TakingLaws as law
use Rattle.reading.specs.Stages as to
use Rattle.reading.proofs.filling.tasks.Goals as goal

pub returns-in_err-read : goal.returns-in_err-read
unfolding to.store_tasks
returns-in_err-read c = law.takes-exit _ _ _ c.from_residual.ensures.1 (law.takes-in (λ z. to.with_tasks z c.args.t.now) (λ a. refl) c.in_err-read.ensures.takes)

pub returns : goal.returns
unfolding to.store_tasks
returns c = law.takes-in (λ z. to.with_tasks z c.args.t.now) (λ a. refl) c.in_ok-read.ensures.takes
