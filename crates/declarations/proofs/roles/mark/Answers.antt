use Rattle.fields.specs.CellLaws as cells
use Rattle.declarations.proofs.roles.mark.Goals as goal

pub returns-then-from-roles : goal.returns-then-from-roles
returns-then-from-roles c = cells.stored-same c.args.roles.now _ c.args.from c.min-end.result c.args.many c.args.role c.if-from-roles.true c.min-end.ensures (c.fill.ensures.after (λ y e. e))

pub returns-else-from-roles : goal.returns-else-from-roles
returns-else-from-roles c = cells.stored-nowhere c.args.roles.now _ c.args.from c.if-from-roles.false
