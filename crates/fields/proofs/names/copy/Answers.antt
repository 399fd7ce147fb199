use Rattle.std.proofs.Common.{ap, ◌∙◌, ◌≡◌, ◌+◌, append-nil, length, set, get_or, arith}
use Rattle.std.proofs.Math.Seq.{paste}
use Rattle.std.proofs.lemmas.List.{drop_all}
use Rattle.std.proofs.lemmas.List.Edits.{paste_none, paste_more, paste_all}
use Rattle.fields.proofs.names.copy.Goals as goal

pub loop-k-init : goal.loop-k-init
loop-k-init c = paste_none c.args.cells.now 0 c.args.letters.now

pub loop-k-preserved : goal.loop-k-preserved
loop-k-preserved c =
    let cells = c.args.cells.now in
    let letters = c.args.letters.now in
    let k = c.loop-k.k in
    let e : k ≡ 0 + k = omega arith in
    ap (λ l. set l k (get_or letters k 0)) c.loop-k.invariant ∙ ap (λ i. set (paste cells 0 letters k) i (get_or letters k 0)) e ∙ paste_more cells 0 letters k 0 (omega arith) (omega arith)

pub returns : goal.returns
returns c =
    let cells = c.args.cells.now in
    let letters = c.args.letters.now in
    let e : c.loop-k.k ≡ length letters = omega arith in
    c.loop-k.invariant ∙ paste_all cells 0 letters c.loop-k.k e ∙ rw (drop_all (0 + c.loop-k.k) cells (omega arith)) (append-nil letters)
