use mathlib.Core.Path.{refl, sym, ap, ◌∙◌}
use mathlib.Core.List.{[], ◌∷◌}
use Rattle.codec.proofs.Sequences.{dep-got}
use Rattle.layout.specs.Filling.{stored}
use Rattle.fields.specs.TakingLaws as law
use Rattle.fields.specs.CellLaws as cells
use Rattle.records.specs.StoreLaws as store
use Rattle.file.specs.Code.{instruction, triple}
use Rattle.records.proofs.code_rows.instruction.Goals as goal

pub returns : goal.returns
unfolding instruction triple
returns c =
    let l = c.args.rows.now in
    let place = c.args.place in
    let o = c.in_ok-opcode.opcode in
    let a = c.in_ok-first.first in
    let b = c.in_ok-second.second in
    let p = dep-got _ _ _ c.in_ok-opcode.ensures (dep-got _ _ _ c.in_ok-first.ensures c.in_ok-second.ensures) in
    law.takes-shape _ _ _
    (law.takes-got {a = (o, (a, b))} p
    (c.put32-3.ensures ∙ rw (c.put32-2.ensures, c.put32.ensures) (cells.cells-three l place o a b)
    ∙ sym (ap (λ t. stored l place (t.0 ∷ t.1.0 ∷ t.1.1 ∷ [])) (store.triple-read _ (o, (a, b)) _ p))))
