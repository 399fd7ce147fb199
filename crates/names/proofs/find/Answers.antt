use lib.Seq.{slice}
use Rattle.names.specs.Tables.{scope_of}
use Rattle.names.specs.Walking.{scope-beyond}
use Rattle.std.proofs.Common.{◌∙◌, arith}
use Rattle.names.proofs.find.Goals as goal

pub returns-in-None : goal.returns-in-None
returns-in-None c = λ ix.
    let args = c.args in
    c.unknown.ensures ∙ scope-beyond args.s.now (scope_of args.scope) (slice args.start args.end args.s.now) args.cells.now args.n (λ i. omega (arith, c.type_inv.cells i)) c.in-None.ensures
