use Rattle.layout.specs.Rows.{zeros}
use borrow.Author.Rules.{rules}
use Rattle.coding.proofs.coded.Goals as goal

pub returns : goal.returns
unfolding zeros
returns c = record { begins = _; made = c.generate-count.ensures; begun = c.begin_places.ensures }
