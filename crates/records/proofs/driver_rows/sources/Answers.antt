use native.Mathlib.Omega.{arith}
use mathlib.Core.Path.{refl}
use Rattle.fields.specs.TakingLaws as law
use Rattle.fields.specs.RunLaws as run
use Rattle.records.specs.Stores as to
use Rattle.records.proofs.driver_rows.sources.Goals as goal

pub loop-k-init : goal.loop-k-init
loop-k-init c = run.left-begin

pub loop-k-preserved : goal.loop-k-preserved
unfolding to.store_source
loop-k-preserved c = run.left-more (λ a. refl) (omega arith) c.loop-k.invariant (law.takes-got {a = c.in_ok-port.field-0} c.in_ok-port.ensures c.put32.ensures)

pub returns-in_err-port : goal.returns-in_err-port
unfolding to.store_source
returns-in_err-port c = run.runs-exit _ _ _ c.from_residual.ensures.1 (run.left_out (λ a. refl) (omega arith) c.loop-k.invariant (law.takes-no c.in_err-port.ensures))

pub returns : goal.returns
returns c = run.left_end (omega arith) c.loop-k.invariant
