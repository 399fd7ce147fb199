use Rattle.std.proofs.Common.{sym, ap, ◌∙◌}
use Rattle.refusals.specs.Names.{is_row}
use Rattle.names.specs.TablesLaws as law
use Rattle.names.proofs.searched.Goals as goal

pub returns-then-is_row : goal.returns-then-is_row
returns-then-is_row c =
    let args = c.args in
    let told = c.is_row.ensures ∙ ap (is_row args.s.now args.scope args.word.now) c.row-this.ensures in
    c.row-this.ensures ∙ sym (c.loop-k.invariant ∙ law.find-out args.s.now args.cells.now c.loop-k.k args.n args.scope args.word.now c.loop-k-test.true (sym told ∙ c.if-is_row.true))

pub loop-k-preserved : goal.loop-k-preserved
loop-k-preserved c =
    let args = c.args in
    let told = c.is_row.ensures ∙ ap (is_row args.s.now args.scope args.word.now) c.row-this.ensures in
    c.loop-k.invariant ∙ law.find-on args.s.now args.cells.now c.loop-k.k args.n args.scope args.word.now c.loop-k-test.true (sym told ∙ c.if-is_row.false)

pub returns : goal.returns
returns c =
    let args = c.args in
    c.unknown.ensures ∙ sym (c.loop-k.invariant ∙ law.find-end args.s.now args.cells.now c.loop-k.k args.n args.scope args.word.now c.loop-k-test.false)
