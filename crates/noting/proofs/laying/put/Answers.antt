use lib.Seq.{set_out}
use mathlib.Core.Path.{sym}
use borrow.Author.Rules.{rules}
use Rattle.noting.proofs.laying.put.Goals as goal

pub returns-else-at-numbers : goal.returns-else-at-numbers
returns-else-at-numbers c = sym (set_out _ _ _ c.if-at-numbers.false)
