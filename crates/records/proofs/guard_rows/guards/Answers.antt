use native.Mathlib.Omega.{arith}
use mathlib.Core.Path.{refl}
use Rattle.codec.proofs.Lists.{list-no}
use Rattle.fields.specs.TakingLaws as law
use Rattle.fields.specs.RunLaws as run
use Rattle.records.specs.Stores as to
use Rattle.file.specs.Code.{guards}
use Rattle.records.proofs.guard_rows.guards.Goals as goal

pub returns-in_err-count-clause-takes : goal.returns-in_err-count-clause-takes
unfolding guards
returns-in_err-count-clause-takes c = law.takes-exit _ _ _ c.from_residual.ensures.1 (law.takes-no (list-no _ _ c.in_err-count.ensures.reads))

pub loop-k-init : goal.loop-k-init
loop-k-init c = run.left-begin

pub loop-k-preserved : goal.loop-k-preserved
unfolding to.store_guard
loop-k-preserved c = run.left-more (λ a. refl) (omega arith) c.loop-k.invariant c.in_ok-guard.ensures

pub returns-in_err-guard-clause-takes : goal.returns-in_err-guard-clause-takes
unfolding guards to.store_guard
returns-in_err-guard-clause-takes c = law.takes-exit _ _ _ c.from_residual-in_err-guard.ensures.1 (run.takes-counted-list _ c.in_ok-count.ensures.reads (run.left_out (λ a. refl) (omega arith) c.loop-k.invariant c.in_err-guard.ensures))

pub returns-clause-takes : goal.returns-clause-takes
unfolding guards
returns-clause-takes c = run.takes-counted-list _ c.in_ok-count.ensures.reads (run.left_end (omega arith) c.loop-k.invariant)
