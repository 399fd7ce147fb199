use mathlib.Core.Path.{ap, ◌∙◌}
use native.Mathlib.Omega.{arith}
use Prim.Native.Nat.{ℕ}
use Rattle.codec.specs.Readings.{got}
use Rattle.fields.specs.TakingLaws as law
use Rattle.fields.specs.RunLaws as run
use Rattle.file.specs.Code.{updating, releasing, terminating, driver_rest, driver_of}
use Rattle.file.proofs.Tagged.{driver-no, driver-bad, driver-on}
use Rattle.records.proofs.driver_rows.driver.Goals as goal

pub returns-in_err-byte : goal.returns-in_err-byte
returns-in_err-byte c = law.takes-exit _ _ _ c.from_residual.ensures.1 (law.takes-no (driver-no _ c.in_err-byte.ensures))

pub returns-in-3 : goal.returns-in-3
returns-in-3 c = run.takes-tag (driver_rest updating) (driver_of updating) (driver-on _ updating (c.in_ok-byte.ensures ∙ ap (λ (v : ℕ). got v c.byte.new.self.rest.now) c.in-3.is)) c.update.ensures

pub returns-in-4 : goal.returns-in-4
returns-in-4 c = run.takes-tag (driver_rest releasing) (driver_of releasing) (driver-on _ releasing (c.in_ok-byte.ensures ∙ ap (λ (v : ℕ). got v c.byte.new.self.rest.now) c.in-4.is)) c.release.ensures

pub returns-in-5 : goal.returns-in-5
returns-in-5 c = run.takes-tag (driver_rest terminating) (driver_of terminating) (driver-on _ terminating (c.in_ok-byte.ensures ∙ ap (λ (v : ℕ). got v c.byte.new.self.rest.now) c.in-5.is)) c.terminate.ensures

pub returns-in_default : goal.returns-in_default
returns-in_default c = law.takes-no (driver-bad _ c.in_ok-byte.ensures (λ e. omega arith) (λ e. omega arith) (λ e. omega arith))
