use Rattle.std.proofs.Common.{sym, ap, ◌∙◌, arith}
use Rattle.names.specs.Tables.{is_of}
use Rattle.names.specs.TablesLaws as law
use Rattle.names.proofs.counting.counted.Goals as goal
use Rattle.names.proofs.counting.counted.Goals.{then-has, else-has}

pub loop-k-preserved : goal.loop-k-preserved
loop-k-preserved c =
    let args = c.args in
    let loop = c.loop-k in
    let told = c.has.ensures ∙ ap (is_of args.sought) c.row.ensures in
    elim c.if-has.branch [
      | then-has w ↦ (omega arith, omega (arith, loop.invariant.1, law.count-more (is_of args.sought) args.cells.now loop.k args.n c.loop-k-test.true (sym told ∙ w.if-has.true)))
      | else-has w ↦ (omega arith, omega (arith, loop.invariant.1, law.count-on (is_of args.sought) args.cells.now loop.k args.n c.loop-k-test.true (sym told ∙ w.if-has.false)))
    ]

pub returns : goal.returns
returns c = omega (arith, c.loop-k.invariant.1, law.count-end (is_of c.args.sought) c.args.cells.now c.loop-k.k c.args.n c.loop-k-test.false)
