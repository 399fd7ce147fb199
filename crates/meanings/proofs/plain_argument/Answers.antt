use mathlib.Core.Path.{refl, ◌∙◌}
use Rattle.meanings.specs.Arguments.{argument-found, argument-none}
use Rattle.meanings.proofs.plain_argument.Goals as goal

pub returns-then-row-lt2 : goal.returns-then-row-lt2
returns-then-row-lt2 c ix = argument-found _ _ _ refl (c.found-row.ensures ix) c.if-row-lt2.true

pub returns-else-row-lt2 : goal.returns-else-row-lt2
returns-else-row-lt2 c ix = c.unknown.ensures ∙ argument-none _ _ _ refl (c.found-row.ensures ix) c.if-row-lt2.false
