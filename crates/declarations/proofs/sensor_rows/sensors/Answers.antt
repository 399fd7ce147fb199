use native.Mathlib.Omega.{arith}
use mathlib.Core.Path.{refl}
use Rattle.codec.proofs.Lists.{list-no}
use Rattle.fields.specs.TakingLaws as law
use Rattle.fields.specs.RunLaws as run
use Rattle.file.specs.Records.{sensors}
use Rattle.declarations.proofs.sensor_rows.sensors.Goals as goal

pub returns-in_err-count-clause-takes : goal.returns-in_err-count-clause-takes
unfolding sensors
returns-in_err-count-clause-takes c = law.takes-exit _ _ _ c.from_residual.ensures.1 (law.takes-no (list-no _ _ c.in_err-count.ensures.reads))

pub loop-k-init : goal.loop-k-init
loop-k-init c = run.left-begin

pub loop-k-preserved : goal.loop-k-preserved
loop-k-preserved c = run.left-more (λ a. refl) (omega arith) c.loop-k.invariant c.in_ok-sensor.ensures

pub returns-in_err-sensor-clause-takes : goal.returns-in_err-sensor-clause-takes
unfolding sensors
returns-in_err-sensor-clause-takes c = law.takes-exit _ _ _ c.from_residual-in_err-sensor.ensures.1 (run.takes-counted-list _ c.in_ok-count.ensures.reads (run.left_out (λ a. refl) (omega arith) c.loop-k.invariant c.in_err-sensor.ensures))

pub returns-clause-takes : goal.returns-clause-takes
unfolding sensors
returns-clause-takes c = run.takes-counted-list _ c.in_ok-count.ensures.reads (run.left_end (omega arith) c.loop-k.invariant)
