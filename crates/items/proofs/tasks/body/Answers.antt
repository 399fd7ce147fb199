use Rattle.text.specs.declared.Token.TheVariants as T
use Rattle.wants.proofs.Others.{same-token, other-token}
use Rattle.items.specs.Bodies.{task-body-told}
use Rattle.items.proofs.tasks.body.Goals as goal

pub returns-in-Name : goal.returns-in-Name
returns-in-Name c = rw (← task-body-told c.args.s.now c.args.at c.args.k, ← c.token-found.ensures, same-token T.Name c.token-found.result c.in-Name.is) c.port.ensures

pub returns-in_default : goal.returns-in_default
returns-in_default c =
    rw (← task-body-told c.args.s.now c.args.at c.args.k, ← c.token-found.ensures, other-token T.Name c.token-found.result c.in_default.not-Name)
    c.section.ensures
