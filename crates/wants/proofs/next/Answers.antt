use Rattle.wants.specs.Given.{want-of, ends-want}
use Rattle.wants.proofs.next.Goals as goal

pub returns-in-Some : goal.returns-in-Some
returns-in-Some c = rw (ends-want c.in-Some.ensures)

pub returns-in-None : goal.returns-in-None
returns-in-None c = rw (c.given.ensures, want-of _ _ _ c.token.ensures c.args.t)
