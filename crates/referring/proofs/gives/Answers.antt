use mathlib.Core.Path.{refl, sym, ◌∙◌}
use Rattle.referring.specs.Rows.{gives_in}
use borrow.Author.Rules.{rules}
use Rattle.referring.proofs.gives.Goals as goal

pub returns-then-is_source : goal.returns-then-is_source
unfolding gives_in
returns-then-is_source c = rw (sym c.is_source.ensures ∙ c.if-is_source.true, ← (rw c.wide32.ensures.0 at c.at32.ensures)) refl

pub returns : goal.returns
unfolding gives_in
returns c = rw (sym c.is_source.ensures ∙ c.if-is_source.false) refl
