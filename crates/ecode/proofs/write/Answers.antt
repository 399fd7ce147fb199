use mathlib.Core.Path.{ap, ◌∙◌}
use Rattle.file.specs.Answers.{write_number}
use Rattle.ecode.specs.Sound.{bytes_of, sound_in}
use Rattle.ecode.specs.Numbers.{write-numbered}
use Rattle.ecode.proofs.write.Goals as goal

pub returns : goal.returns
returns c =
    let args = c.args in
    let wrote = c.write_by.ensures in record { answer = wrote; number = ap write_number wrote.0 ∙ write-numbered (sound_in args.t.now) (bytes_of args.t.now) args.buffer.now }
