use Rattle.std.proofs.Common.{◌∙◌, ◌-◌, ◌*◌, [], ◌∷◌, sym}
use borrow.Author.Tests.{eq-eqb, ne_eqb, lt-ltb, le-ltb}
use Rattle.layout.specs.Filling.{stored, stored-both}
use Rattle.sheets.specs.Sheets.{guard_stored, guard_row_of}
use Rattle.entries.proofs.rows.guard.Goals as goal

pub returns-then-acting-eq0 : goal.returns-then-acting-eq0
unfolding guard_stored
returns-then-acting-eq0 c = simp (eq-eqb _ _ c.if-acting-eq0.true)

pub returns-then-function-lt2 : goal.returns-then-function-lt2
unfolding guard_stored guard_row_of stored
returns-then-function-lt2 c = c.store.ensures ∙ simp (ne_eqb _ _ c.if-acting-eq0.false, lt-ltb _ _ c.if-function-lt2.true)

pub returns-else-function-lt2 : goal.returns-else-function-lt2
unfolding guard_stored guard_row_of stored
returns-else-function-lt2 c =
    let a = c.args in
    let x = a.acting in
    let six = sym (stored-both a.rows.now (a.number * 6) ((x.function - 1) ∷ 2 ∷ x.first_place ∷ x.first_word ∷ []) (x.second_place ∷ x.second_word ∷ [])) in
    c.store-else-function-lt2-2.ensures ∙ rw c.store-else-function-lt2.ensures (simp (ne_eqb _ _ c.if-acting-eq0.false, le-ltb _ _ c.if-function-lt2.false) six)
