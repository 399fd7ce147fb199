use Rattle.items.specs.Bodies.{finish-told}
use Rattle.items.proofs.modules.finish.Goals as goal

pub returns : goal.returns
returns c = rw (← finish-told c.args.s.now c.args.at, ← c.token.ensures, ← c.token-2.ensures) c.close.ensures
