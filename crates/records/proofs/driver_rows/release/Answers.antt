use mathlib.Core.Path.{◌≡◌, refl, ◌∙◌}
use mathlib.Core.List.{[], ◌∷◌}
use lib.ListN.{length}
use Rattle.codec.specs.Numbers.{be}
use Rattle.codec.proofs.Lists.{list-no}
use Rattle.codec.proofs.Sequences.{dep-no, dep-out}
use Rattle.layout.specs.Filling.{stored}
use Rattle.fields.specs.TakingLaws as law
use Rattle.fields.specs.RunLaws as run
use Rattle.fields.specs.CellLaws as cells
use Rattle.records.specs.StoreLaws as store
use Rattle.file.specs.Parts.{count}
use Rattle.file.specs.Code.{driver_rest}
use Rattle.records.proofs.driver_rows.release.Goals as goal

pub returns-in_err-task : goal.returns-in_err-task
unfolding driver_rest
returns-in_err-task c = law.takes-exit _ _ _ c.from_residual.ensures.1 (law.takes-no (dep-no _ _ _ c.in_err-task.ensures))

pub returns-in_err-count : goal.returns-in_err-count
unfolding driver_rest
returns-in_err-count c = law.takes-exit _ _ _ c.from_residual-in_err-count.ensures.1 (law.takes-no (dep-out _ _ _ c.in_ok-task.ensures (list-no _ _ c.in_err-count.ensures.reads)))

pub returns : goal.returns
unfolding driver_rest
returns c =
    let l = c.args.rows.now in
    let place = c.args.place in
    let t = c.in_ok-task.field-0 in
    let n = c.in_ok-count.count in
    let e : c.put32-3.new.cells ≡ stored l place (4 ∷ t ∷ n ∷ []) = c.put32-3.ensures ∙ rw (c.put32-2.ensures, c.put32.ensures) (cells.cells-three l place 4 t n) in
    law.takes-by _ _ _ {store = λ x m. stored m place (4 ∷ x.0 ∷ length x.1 ∷ x.1)} c.in_ok-task.ensures
    (law.takes-from _
    (λ xs rest p. rw (run.list-length (be 2) (count 1 8) c.in_ok-count.ensures.reads p) (store.row-sources l _ place (4 ∷ t ∷ n ∷ []) xs e))
    (run.takes-list _ c.in_ok-count.ensures.reads c.sources.ensures))
