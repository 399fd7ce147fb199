use Rattle.std.proofs.Common.{get_or, sym, ap, ◌∙◌}
use Rattle.refusals.specs.Names.{types, no_type}
use Rattle.names.specs.Tables.{is_of}
use Rattle.names.specs.TablesLaws as law
use Rattle.names.proofs.type_of.Goals as goal

pub returns : goal.returns
returns c text ix = let args = c.args in
    let test = is_of args.sought in
    let begin = ap (λ rows. get_or (types test rows) args.i no_type) (law.up-begin args.cells.now args.n) in
    c.typed_from.ensures ∙ sym (begin ∙ law.type-skip test args.cells.now args.n args.i c.first_of-from.result (c.first_of-from.ensures text ix))
