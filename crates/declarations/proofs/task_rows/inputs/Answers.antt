use native.Mathlib.Omega.{arith}
use mathlib.Core.Path.{refl}
use Rattle.codec.proofs.Lists.{list-no}
use Rattle.fields.specs.TakingLaws as law
use Rattle.fields.specs.RunLaws as run
use Rattle.declarations.specs.Stores as to
use Rattle.declarations.proofs.task_rows.inputs.Goals as goal

pub returns-in_err-count-clause-takes : goal.returns-in_err-count-clause-takes
returns-in_err-count-clause-takes c = law.takes-exit _ _ _ c.from_residual.ensures.1 (law.takes-no (list-no _ _ c.in_err-count.ensures.reads))

pub loop-k-init : goal.loop-k-init
loop-k-init c = run.left-begin

pub loop-k-preserved : goal.loop-k-preserved
unfolding to.store_input
loop-k-preserved c = run.left-more (λ a. refl) (omega arith) c.loop-k.invariant (law.takes-got {a = c.in_ok-kind.kind} c.in_ok-kind.ensures.reads c.put32.ensures)

pub returns-in_err-kind-clause-takes : goal.returns-in_err-kind-clause-takes
returns-in_err-kind-clause-takes c = law.takes-exit _ _ _ c.from_residual-in_err-kind.ensures.1 (run.takes-counted-list _ c.in_ok-count.ensures.reads (run.left_out (λ a. refl) (omega arith) c.loop-k.invariant (law.takes-no c.in_err-kind.ensures.reads)))

pub returns-clause-takes : goal.returns-clause-takes
returns-clause-takes c = run.takes-counted-list _ c.in_ok-count.ensures.reads (run.left_end (omega arith) c.loop-k.invariant)
