use mathlib.Core.Path.{ap, ◌∙◌}
use native.Mathlib.Omega.{arith}
use Prim.Native.Nat.{ℕ}
use Rattle.codec.specs.Readings.{got}
use Rattle.fields.specs.TakingLaws as law
use Rattle.fields.specs.RunLaws as run
use Rattle.file.specs.Code.{of_port, of_value, argument_rest, argument_of}
use Rattle.file.proofs.Tagged.{argument-no, argument-bad, argument-on}
use Rattle.records.proofs.guard_rows.argument.Goals as goal

pub returns-in_err-byte : goal.returns-in_err-byte
returns-in_err-byte c = law.takes-exit _ _ _ c.from_residual.ensures.1 (law.takes-no (argument-no _ c.in_err-byte.ensures))

pub returns-in-0 : goal.returns-in-0
returns-in-0 c = run.takes-tag (argument_rest of_port) (argument_of of_port) (argument-on _ of_port (c.in_ok-byte.ensures ∙ ap (λ (v : ℕ). got v c.byte.new.self.rest.now) c.in-0.is)) c.port_argument.ensures

pub returns-in-1 : goal.returns-in-1
returns-in-1 c = run.takes-tag (argument_rest of_value) (argument_of of_value) (argument-on _ of_value (c.in_ok-byte.ensures ∙ ap (λ (v : ℕ). got v c.byte.new.self.rest.now) c.in-1.is)) c.fixed_argument.ensures

pub returns-in_default : goal.returns-in_default
returns-in_default c = law.takes-no (argument-bad _ c.in_ok-byte.ensures (λ e. omega arith) (λ e. omega arith))
