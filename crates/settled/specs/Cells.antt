-- The cells of lists that the programs read and write.
use Rattle.std.specs.Prelude.{refl}
use Rattle.std.proofs.Common.{sym, ◌∙◌}
use Rattle.settled.specs.Settled.{Settled}
use Rattle.cells.proofs.at32.Kinds as at32
use Rattle.cells.proofs.at32.Reads as at32-reads
use Rattle.cells.proofs.put32.Kinds as put32
use Rattle.cells.proofs.put32.Reads as put32-reads

pub at32-settled : Settled at32.ps at32.r at32-reads.Post
at32-settled κs arguments one other held kept p q = (p ∙ sym q, refl)

pub put32-settled : Settled put32.ps put32.r put32-reads.Post
put32-settled κs arguments one other held kept p q = (refl, λ i. ((p ∙ sym q) i, (tt, (tt, tt))))
