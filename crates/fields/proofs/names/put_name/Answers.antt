use Rattle.fields.specs.CellLaws as cells
use Rattle.fields.specs.NameLaws as law
use Rattle.fields.proofs.names.put_name.Goals as goal

pub returns-then-place-names-clause-row : goal.returns-then-place-names-clause-row
returns-then-place-names-clause-row c few = law.put-row c.args.names.now c.args.word.now _ c.args.place c.min-end.result c.if-place-names.true c.min-end.ensures c.copy.ensures

pub returns-else-place-names-clause-row : goal.returns-else-place-names-clause-row
returns-else-place-names-clause-row c few = cells.stored-nowhere c.args.names.now _ c.args.place c.if-place-names.false
