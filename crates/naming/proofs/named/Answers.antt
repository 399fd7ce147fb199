use mathlib.Core.Path.{refl, sym}
use Rattle.naming.specs.Laws.{name-there, name-none}
use Rattle.naming.proofs.named.Goals as goal

pub returns-then-row-names : goal.returns-then-row-names
returns-then-row-names c = name-there c.args.names.now c.args.row _ _ c.min-size.result c.if-row-names.true refl c.min-size.ensures refl

pub returns-else-row-names : goal.returns-else-row-names
returns-else-row-names c = sym (name-none _ _ c.if-row-names.false)
