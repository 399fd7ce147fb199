use Rattle.std.proofs.Common.{◌+◌, sym, ap, ◌∙◌, List, ℕ, drop}
use Rattle.coding.specs.Codings.{begun_from, begun-on, begun_all}
use Rattle.coding.proofs.begin_places.Goals as goal

pub loop-k-preserved : goal.loop-k-preserved
loop-k-preserved c =
    let k = c.loop-k.k in
    let begins = c.args.begins.now in
    ap (λ (rows : List ℕ). begun_from rows (k + 1) (drop (k + 1) begins)) c.put32.ensures ∙ begun-on c.loop-k.mode_rows k begins c.loop-k-test.true ∙ c.loop-k.invariant

pub returns : goal.returns
returns c = sym (begun_all c.loop-k.mode_rows c.loop-k.k c.args.begins.now c.loop-k-test.false) ∙ c.loop-k.invariant
