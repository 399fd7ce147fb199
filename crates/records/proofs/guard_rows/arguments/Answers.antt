use native.Mathlib.Omega.{arith}
use mathlib.Core.Path.{refl}
use Rattle.fields.specs.TakingLaws as law
use Rattle.fields.specs.RunLaws as run
use Rattle.records.specs.Stores as to
use Rattle.records.proofs.guard_rows.arguments.Goals as goal

pub loop-k-init : goal.loop-k-init
loop-k-init c = run.left-begin

pub loop-k-preserved : goal.loop-k-preserved
unfolding to.store_argument
loop-k-preserved c = run.left-more (λ a. refl) (omega arith) c.loop-k.invariant c.in_ok-argument.ensures

pub returns-in_err-argument : goal.returns-in_err-argument
unfolding to.store_argument
returns-in_err-argument c = run.runs-exit _ _ _ c.from_residual.ensures.1 (run.left_out (λ a. refl) (omega arith) c.loop-k.invariant c.in_err-argument.ensures)

pub returns : goal.returns
returns c = run.left_end (omega arith) c.loop-k.invariant
