use mathlib.Core.Path.{refl}
use borrow.Author.Rules.{rules}
use Rattle.ports.proofs.late.Goals as goal

pub returns-in-Module : goal.returns-in-Module
returns-in-Module c = rw c.in-Module.is refl
