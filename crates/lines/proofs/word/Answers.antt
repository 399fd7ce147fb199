use Rattle.lines.proofs.word.Goals as goal

pub returns : goal.returns
returns c = rw c.find-to.ensures.place
