use Rattle.names.specs.Index.{tallied}
use Rattle.names.proofs.storing.tally.Goals as goal

pub returns : goal.returns
unfolding tallied
returns c = rw (c.first_by-first.ensures, c.min-scopes.ensures, c.min-sorts.ensures, c.min-kinds.ensures, c.saturating_sub-group.ensures, c.min-sort.ensures, c.min-scope.ensures, c.kind_place-kind.ensures.0)
