-- The judgments of a table's references (refusal 24 of the file).
use Rattle.std.specs.Prelude.{◌≡◌, refl, List, []}
use Rattle.std.proofs.Common.{sym, ap, ◌∙◌}
use Rattle.settled.specs.Settled.{Settled}
use Rattle.referring.proofs.good_drivers.Kinds as good-drivers
use Rattle.referring.proofs.good_drivers.Reads as good-drivers-reads
use Rattle.referring.proofs.good_guards.Kinds as good-guards
use Rattle.referring.proofs.good_guards.Reads as good-guards-reads
use Rattle.referring.proofs.good_modes.Kinds as good-modes
use Rattle.referring.proofs.good_modes.Reads as good-modes-reads
use Rattle.referring.proofs.good_code.Kinds as good-code
use Rattle.referring.proofs.good_code.Reads as good-code-reads

pub good-drivers-settled : Settled good-drivers.ps good-drivers.r good-drivers-reads.Post
good-drivers-settled κs arguments one other held kept p q = (p ∙ sym q, refl)

pub good-guards-settled : Settled good-guards.ps good-guards.r good-guards-reads.Post
good-guards-settled κs arguments one other held kept p q = (p ∙ sym q, refl)

pub good-modes-settled : Settled good-modes.ps good-modes.r good-modes-reads.Post
good-modes-settled κs arguments one other held kept p q = (p ∙ sym q, refl)

pub good-code-settled : Settled good-code.ps good-code.r good-code-reads.Post
good-code-settled κs arguments one other held kept p q = (p ∙ sym q, refl)
