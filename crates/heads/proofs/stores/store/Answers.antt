use Rattle.std.proofs.Common.{sym, ap, ◌∙◌, ◌≡◌, set, arith, ◌+◌}
use Rattle.std.proofs.lemmas.List.Edits.{paste_none, paste_more}
use Rattle.std.proofs.Math.Seq.{paste}
use Rattle.heads.proofs.Rooms.{sets-past, stores-eq}
use Rattle.heads.proofs.stores.store.Goals as goal

pub loop-k-init : goal.loop-k-init
loop-k-init g c = paste_none c.args.cells.now c.args.place c.args.values.now

pub loop-k-preserved : goal.loop-k-preserved
loop-k-preserved g c =
    let cells = c.args.cells.now in
    let place = c.args.place in
    let values = c.args.values.now in
    let k = c.loop-k.k in
    let value = c.index-values-k.result in
    ap (λ l. set l (place + k) value) c.loop-k.invariant ∙ ap (λ v. set (paste cells place values k) (place + k) v) c.index-values-k.is ∙ paste_more cells place values k value (omega arith) (omega arith)

pub returns-after-loop-k : goal.returns-after-loop-k
returns-after-loop-k g c =
    let cells = c.args.cells.now in
    let values = c.args.values.now in
    let e : c.loop-k.k ≡ c.min-n.result = omega arith in
    c.loop-k.invariant ∙ ap (λ k. paste cells c.args.place values k) e ∙ stores-eq values cells c.args.place c.min-n.result (omega arith) (omega arith)

pub returns-else-place-cells : goal.returns-else-place-cells
returns-else-place-cells g c = sym (sets-past c.args.values.now c.args.cells.now c.args.place c.if-place-cells.false)
