use Rattle.naming.proofs.name.Goals as goal

pub returns : goal.returns
returns c = rw (← c.named.ensures) c.text.ensures
