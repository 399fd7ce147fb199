use Rattle.text.specs.declared.Token.TheVariants as T
use Rattle.wants.proofs.Others.{same-token, other-token}
use Rattle.items.specs.Bodies.{act-told}
use Rattle.items.proofs.acts.act.Goals as goal

pub returns-in-KeyIf : goal.returns-in-KeyIf
returns-in-KeyIf c = rw (← act-told c.args.s.now c.args.at c.args.k, ← c.token-found.ensures, same-token T.KeyIf c.token-found.result c.in-KeyIf.is) c.guard.ensures

pub returns-in_default : goal.returns-in_default
returns-in_default c =
    rw (← act-told c.args.s.now c.args.at c.args.k, ← c.token-found.ensures, other-token T.KeyIf c.token-found.result c.in_default.not-KeyIf)
    c.target.ensures
