use Rattle.text.specs.declared.Token.TheVariants as T
use Rattle.wants.proofs.Others.{same-token, other-token}
use Rattle.items.specs.Bodies.{mode-body-told}
use Rattle.items.proofs.modes.body.Goals as goal

pub returns-in-LeftBracket : goal.returns-in-LeftBracket
returns-in-LeftBracket c = rw (← mode-body-told c.args.s.now c.args.at c.args.k, ← c.token-found.ensures, same-token T.LeftBracket c.token-found.result c.in-LeftBracket.is) c.head.ensures

pub returns-in_default : goal.returns-in_default
returns-in_default c =
    rw (← mode-body-told c.args.s.now c.args.at c.args.k, ← c.token-found.ensures, other-token T.LeftBracket c.token-found.result c.in_default.not-LeftBracket)
    c.section.ensures
