use mathlib.Core.Path.{ap, ◌∙◌}
use Rattle.file.specs.Files.{decode}
use Rattle.ecode.specs.Filed.{longest}
use Rattle.ecode.specs.Sound.{back_in, sound_in}
use Rattle.ecode.proofs.sound_by.Goals as goal

pub returns : goal.returns
unfolding sound_in
returns c = c.reads_back.ensures ∙ ap (λ l. back_in c.args.t.now (decode l)) (longest c.file-n.ensures c.requires)
