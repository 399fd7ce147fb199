use mir.Facts.{to_z-of_z}
use mir.Val.{SFits, of_z}
use mir.Syntax.{w32}
use mathlib.Core.Path.{ap, ◌∙◌}
use borrow.Author.Rules.{rules}
use Rattle.guards.proofs.word.Goals as goal

pub returns-in-Int : goal.returns-in-Int
returns-in-Int c = let f : SFits w32 c.in-Int.number = search rules in rw c.in-Int.is (c.word_of.ensures ∙ ap (of_z w32) (to_z-of_z f))
