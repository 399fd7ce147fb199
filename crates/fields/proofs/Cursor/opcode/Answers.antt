use Rattle.codec.proofs.Views.{check-no}
use Rattle.fields.specs.OutcomeLaws as law
use Rattle.fields.proofs.Cursor.opcode.Goals as goal

pub returns-in_err-opcode : goal.returns-in_err-opcode
returns-in_err-opcode c = law.out _ _ _ _ _ c.from_residual.ensures.1 (check-no _ _ _ (c.in_err-opcode.ensures))

pub returns : goal.returns
returns c = law.tested (λ v. v) _ _ _ (c.in_ok-opcode.ensures) c.checked.ensures
