use mathlib.Core.Path.{ap, ◌∙◌}
use Rattle.file.specs.Files.{decode}
use Rattle.ecode.specs.Filed.{longest}
use Rattle.ecode.specs.Sound.{back_in, sound_in}
use Rattle.file.specs.Answers.{writes, written}
use Rattle.ecode.proofs.write_by.Goals as goal

pub returns : goal.returns
unfolding sound_in
returns c = let e = longest c.file-n.ensures c.requires in (c.handed.ensures.0 ∙ ap (λ f. writes (back_in c.args.t.now (decode f)) f c.args.buffer.now) e, c.handed.ensures.1 ∙ ap (λ f. written (back_in c.args.t.now (decode f)) f c.args.buffer.now) e)
