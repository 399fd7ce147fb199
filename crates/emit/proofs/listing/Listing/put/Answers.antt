use Rattle.emit.proofs.Emission.{stored_row, stored-beyond}
use Rattle.emit.proofs.listing.Listing.put.Goals as goal
use Rattle.emit.proofs.listing.Listing.put.Goals.{then-self-lt4096, else-self-lt4096}

pub returns-clause-code : goal.returns-clause-code
returns-clause-code c = elim c.if-self-lt4096.branch [
  | then-self-lt4096 w ↦
      rw w.self-is (rw w.put_row.ensures (stored_row _ _ _ _ _ w.if-self-lt4096.true))
  | else-self-lt4096 w ↦ rw w.self-is (stored-beyond _ _ _ _ _ w.if-self-lt4096.false)
]
