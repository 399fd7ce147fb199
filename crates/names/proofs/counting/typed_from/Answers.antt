use Rattle.refusals.specs.declared.Row.{Row}
use Rattle.std.proofs.Common.{sym, ap, ◌∙◌}
use Rattle.names.specs.Tables.{is_of}
use Rattle.names.specs.TablesLaws as law
use Rattle.names.proofs.counting.typed_from.Goals as goal
use Rattle.names.proofs.counting.typed_from.Goals.{then-has+else-left-eq0, else-has}

pub returns-then-left-eq0 : goal.returns-then-left-eq0
returns-then-left-eq0 c =
    let args = c.args in
    let told = c.has.ensures ∙ ap (is_of args.sought) c.row-this.ensures in
    ap (λ (row : Row). row.typ) c.row-this.ensures ∙ sym (c.loop-k.invariant ∙ rw c.if-left-eq0.true (law.type-out (is_of args.sought) args.cells.now c.loop-k.k args.n c.loop-k-test.true (sym told ∙ c.if-has.true)))

pub loop-k-preserved : goal.loop-k-preserved
loop-k-preserved c =
    let args = c.args in
    let loop = c.loop-k in
    let told = c.has.ensures ∙ ap (is_of args.sought) c.row-this.ensures in
    elim c.if-has.branch [
      | then-has+else-left-eq0 w ↦ loop.invariant ∙ law.type-less (is_of args.sought) args.cells.now loop.k args.n c.loop-k-test.true (sym told ∙ w.if-has.true) loop.left w.if-left-eq0.false ∙ rw w.left-is
      | else-has w ↦ loop.invariant ∙ law.type-on (is_of args.sought) args.cells.now loop.k args.n c.loop-k-test.true (sym told ∙ w.if-has.false) loop.left ∙ rw w.left-is
    ]

pub returns : goal.returns
returns c = sym (c.loop-k.invariant ∙ law.type-end (is_of c.args.sought) c.args.cells.now c.loop-k.k c.args.n c.loop-k-test.false c.loop-k.left)
