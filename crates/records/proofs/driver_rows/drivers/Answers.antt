use native.Mathlib.Omega.{arith}
use mathlib.Core.Path.{refl}
use Rattle.codec.proofs.Lists.{list-no}
use Rattle.fields.specs.TakingLaws as law
use Rattle.fields.specs.RunLaws as run
use Rattle.records.specs.Stores as to
use Rattle.file.specs.Code.{drivers}
use Rattle.records.proofs.driver_rows.drivers.Goals as goal

pub returns-in_err-count-clause-takes : goal.returns-in_err-count-clause-takes
unfolding drivers
returns-in_err-count-clause-takes c = law.takes-exit _ _ _ c.from_residual.ensures.1 (law.takes-no (list-no _ _ c.in_err-count.ensures.reads))

pub loop-k-init : goal.loop-k-init
loop-k-init c = run.left-begin

pub loop-k-preserved : goal.loop-k-preserved
unfolding to.store_driver
loop-k-preserved c = run.left-more (λ a. refl) (omega arith) c.loop-k.invariant c.in_ok-driver.ensures

pub returns-in_err-driver-clause-takes : goal.returns-in_err-driver-clause-takes
unfolding drivers to.store_driver
returns-in_err-driver-clause-takes c = law.takes-exit _ _ _ c.from_residual-in_err-driver.ensures.1 (run.takes-counted-list _ c.in_ok-count.ensures.reads (run.left_out (λ a. refl) (omega arith) c.loop-k.invariant c.in_err-driver.ensures))

pub returns-clause-takes : goal.returns-clause-takes
unfolding drivers
returns-clause-takes c = run.takes-counted-list _ c.in_ok-count.ensures.reads (run.left_end (omega arith) c.loop-k.invariant)
