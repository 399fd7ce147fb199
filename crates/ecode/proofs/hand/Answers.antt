use Rattle.ecode.specs.Sound.{short-refused, wrote}
use mathlib.Core.Bool.{true}
use Rattle.std.proofs.Common.{length, drop, ◌++◌}
use mathlib.Core.Path.{refl, ap, ◌∙◌}
use native.Mathlib.Omega.{arith}
use Rattle.ecode.proofs.hand.Goals as goal

pub returns-then-buffer-n : goal.returns-then-buffer-n
returns-then-buffer-n c = short-refused true c.args.bytes.now c.args.buffer.now refl (omega arith)

pub returns : goal.returns
returns c = let w = wrote true c.args.bytes.now c.args.buffer.now refl (omega arith) in (w.0, ap (λ l. l ++ drop (length c.args.bytes.now) c.args.buffer.now) c.copy_from_slice.ensures.after ∙ w.1)
