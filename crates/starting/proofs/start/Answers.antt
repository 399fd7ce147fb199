use mathlib.Core.Path.{◌∙◌, ap}
use Rattle.starting.specs.Starting.{started}
use borrow.Author.Rules.{rules}
use Rattle.starting.proofs.start.Goals as goal

pub returns : goal.returns
returns c =
    let judged = c.sound-sound.ensures.value in record { machine = started _ _ _ _ _ (rw judged at c.start_on.ensures.machine); means = rw judged at c.start_on.ensures.means }
