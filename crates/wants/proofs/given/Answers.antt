use Rattle.wants.specs.Given.{want_of}
use Rattle.wants.proofs.Others.{same_is}
use Rattle.wants.proofs.given.Goals as goal

pub returns : goal.returns
unfolding want_of
returns c = rw (c.allow.ensures, c.eq.ensures, same_is c.args.found c.args.t)
