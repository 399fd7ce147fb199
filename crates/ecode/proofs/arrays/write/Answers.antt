use Rattle.ecode.specs.Sound.{in-front}
use native.Mathlib.Omega.{arith}
use Rattle.ecode.proofs.arrays.write.Goals as goal

pub returns-else-buffer-lt71364 : goal.returns-else-buffer-lt71364
returns-else-buffer-lt71364 c = in-front c.args.buffer.now (omega (arith, c.if-buffer-lt71364.false)) c.file_of.ensures
