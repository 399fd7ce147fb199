use mathlib.Core.Path.{◌≡◌, refl, ◌∙◌}
use mathlib.Core.List.{List, [], ◌∷◌}
use Prim.Native.Nat.{ℕ}
use lib.ListN.{length}
use Rattle.codec.proofs.Lists.{list-no}
use Rattle.codec.proofs.Sequences.{dep-no, dep-out}
use Rattle.codec.proofs.Views.{shape-no}
use Rattle.layout.specs.Filling.{stored}
use Rattle.layout.specs.Plain.{argument_cells}
use Rattle.fields.specs.TakingLaws as law
use Rattle.fields.specs.RunLaws as run
use Rattle.fields.specs.CellLaws as cells
use Rattle.records.specs.StoreLaws as store
use Rattle.model.specs.Modules.{each}
use Rattle.file.specs.Parts.{count}
use Rattle.file.specs.Code.{argument, guard}
use Rattle.records.proofs.guard_rows.guard.Goals as goal

pub returns-in_err-function : goal.returns-in_err-function
unfolding guard
returns-in_err-function c = law.takes-exit _ _ _ c.from_residual.ensures.1 (law.takes-no (shape-no _ _ _ (dep-no _ _ _ (law.changed-no _ _ c.in_err-function.ensures))))

pub returns-in_err-count : goal.returns-in_err-count
unfolding guard
returns-in_err-count c =
    let (w, p, q) = law.changed-got _ _ c.in_ok-function.ensures in
    law.takes-exit _ _ _ c.from_residual-in_err-count.ensures.1 (law.takes-no (shape-no _ _ _ (dep-out _ _ _ p (list-no _ _ c.in_err-count.ensures.reads))))

pub returns : goal.returns
unfolding guard
returns c =
    let l = c.args.rows.now in
    let place = c.args.place in
    let f = c.in_ok-function.function in
    let n = c.in_ok-count.count in
    let (w, p, q) = law.changed-got _ _ c.in_ok-function.ensures in
    let e : c.put32-2.new.cells ≡ stored l place (f ∷ n ∷ []) = c.put32-2.ensures ∙ rw c.put32.ensures (cells.cells-two l place f n) in
    law.takes-shape _ _ _
    (law.takes-by _ _ _ p
    (law.takes-from _
    (λ xs rest z. rw (q, run.list-length argument (count 1 2) c.in_ok-count.ensures.reads z) (store.row-arguments l _ place (f ∷ n ∷ []) xs e))
    (run.takes-list _ c.in_ok-count.ensures.reads c.arguments.ensures)))
