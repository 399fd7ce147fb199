use Rattle.wants.specs.Given.{any_of}
use Rattle.wants.proofs.Others.{last-code, earlier-code}
use Rattle.wants.proofs.given_any.Goals.{in-End, in_default}
use Rattle.wants.proofs.given_any.Goals as goal

pub returns : goal.returns
unfolding any_of
returns c =
    let token = c.args.found.token in
    elim c.match-matches.branch [
      | in-End w ↦ rw (c.allow.ensures, w.matches-is, last-code token w.in-End.is)
      | in_default w ↦ rw (c.allow.ensures, w.matches-is, earlier-code token w.in_default.not-End w.in_default.not-Bad)
    ]
