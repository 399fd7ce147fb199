-- Laws of names, where more is declared behind some rows.
use Rattle.std.specs.Prelude.{ℕ, ◌+◌, ◌<◌, ◌≡◌, Bool}
use Rattle.std.proofs.Math.Path.{refl, ap}
use mathlib.Core.List.{List, [], ◌∷◌, ◌++◌}
use Rattle.std.proofs.Math.Bool.{true, false, cond}
use native.Mathlib.Omega.{arith}
use Rattle.std.proofs.Common.{lt-ltb, lit<}
use Rattle.std.proofs.Math.ListN.{length}
use Rattle.text.specs.declared.Item.{Item}
use Rattle.text.specs.declared.Item.TheVariants as I
use Rattle.refusals.specs.declared.Row.{Row}
use Rattle.refusals.specs.Names.{no_sort, is_known, is_row, find, count, types}
use Rattle.refusals.specs.Declarations.{declares, rows_after}
use Rattle.refusals.specs.Rules.{Env, grow, env_after}

-- what a row declares is of a sort
abbrev pub Sorted : List Row → Type 0
Sorted [] = Unit {0}
Sorted (row ∷ rows) = (row.sort < no_sort) × Sorted rows

-- A name declared twice keeps its first meaning.
pub find_first : (s : List ℕ) (rows more : List Row) (scope : ℕ) (word : List ℕ) → is_known (find s rows scope word) ≡ true → find s (rows ++ more) scope word ≡ find s rows scope word
unfolding find
find_first s [] more scope word e = let z : ◌≡◌ {A = ℕ} 0 1 = cc in absurd (omega arith)
find_first s (row ∷ rows) more scope word e = go (is_row s scope word row) e (find_first s rows more scope word)
  where
    go : (b : Bool) → is_known (cond b row (find s rows scope word)) ≡ true → (is_known (find s rows scope word) ≡ true → find s (rows ++ more) scope word ≡ find s rows scope word) → cond b row (find s (rows ++ more) scope word) ≡ cond b row (find s rows scope word)
    go true e on = refl
    go false e on = on e

-- one that was not declared is what it is declared as
pub find-new : (s : List ℕ) (rows more : List Row) (scope : ℕ) (word : List ℕ) → Sorted rows → is_known (find s rows scope word) ≡ false → find s (rows ++ more) scope word ≡ find s more scope word
unfolding find
find-new s [] more scope word h e = refl
find-new s (row ∷ rows) more scope word h e = go (is_row s scope word row) e (find-new s rows more scope word h.1)
  where
    go : (b : Bool) → is_known (cond b row (find s rows scope word)) ≡ false → (is_known (find s rows scope word) ≡ false → find s (rows ++ more) scope word ≡ find s more scope word) → cond b row (find s (rows ++ more) scope word) ≡ find s more scope word
    go true e on = let q = lt-ltb row.sort no_sort h.0 in let z : ◌≡◌ {A = ℕ} 0 1 = cc in absurd (omega arith)
    go false e on = on e

module _ (test : Row → Bool) where
  pub count-append : (rows more : List Row) → count test (rows ++ more) ≡ count test rows + count test more
  unfolding count
  count-append [] more = omega arith
  count-append (row ∷ rows) more = go (test row) (count-append rows more)
    where
      go : (b : Bool) → count test (rows ++ more) ≡ count test rows + count test more → cond b (count test (rows ++ more) + 1) (count test (rows ++ more)) ≡ cond b (count test rows + 1) (count test rows) + count test more
      go true e = omega arith
      go false e = e

  pub types-append : (rows more : List Row) → types test (rows ++ more) ≡ types test rows ++ types test more
  unfolding types
  types-append [] more = refl
  types-append (row ∷ rows) more = go (test row) (types-append rows more)
    where
      go : (b : Bool) → types test (rows ++ more) ≡ types test rows ++ types test more → cond b (row.typ ∷ types test (rows ++ more)) (types test (rows ++ more)) ≡ cond b (row.typ ∷ types test rows) (types test rows) ++ types test more
      go true e = ap (λ (l : List ℕ). row.typ ∷ l) e
      go false e = e

  pub types-count : (rows : List Row) → length (types test rows) ≡ count test rows
  unfolding count types
  types-count [] = refl
  types-count (row ∷ rows) = go (test row) (types-count rows)
    where
      go : (b : Bool) → length (types test rows) ≡ count test rows → length (cond b (row.typ ∷ types test rows) (types test rows)) ≡ cond b (count test rows + 1) (count test rows)
      go true e = omega arith
      go false e = e

-- the rows that are known behind all items are those that the text declares
pub env-rows : (s : List ℕ) (all : List Row) (env : Env) (items : List Item) → (env_after s all env items).rows ≡ rows_after s env.rows items
unfolding env_after rows_after
env-rows s all env [] = refl
env-rows s all env (item ∷ items) = env-rows s all (grow s all env item) items

sorted-append : (rows more : List Row) → Sorted rows → Sorted more → Sorted (rows ++ more)
sorted-append [] more h k = k
sorted-append (row ∷ rows) more h k = (h.0, sorted-append rows more h.1 k)

declares-sorted : (s : List ℕ) (rows : List Row) (item : Item) → Sorted (declares s rows item)
declares-sorted s rows (I.Module name) = tt
declares-sorted s rows I.Section = tt
declares-sorted s rows (I.Constant name value) = (lit< tt, tt)
declares-sorted s rows (I.Sensor typ name getter) = (lit< tt, tt)
declares-sorted s rows (I.Actuator typ name value setter) = (lit< tt, tt)
declares-sorted s rows (I.TaskBegin name) = (lit< tt, tt)
declares-sorted s rows (I.Input typ name) = (lit< tt, tt)
declares-sorted s rows (I.Output typ name value) = (lit< tt, tt)
declares-sorted s rows (I.TaskEnd name) = tt
declares-sorted s rows (I.ModeBegin start at name digits milli) = (lit< tt, tt)
declares-sorted s rows (I.Activity kind at digits) = tt
declares-sorted s rows (I.Guard name arguments) = tt
declares-sorted s rows (I.GuardArg port) = tt
declares-sorted s rows (I.Invoke task arguments) = tt
declares-sorted s rows (I.Arg port) = tt
declares-sorted s rows (I.Update actuator source) = tt
declares-sorted s rows (I.Switch name) = tt
declares-sorted s rows I.ModeEnd = tt
declares-sorted s rows I.ModuleEnd = tt
declares-sorted s rows I.End = tt
declares-sorted s rows (I.No number at) = tt

-- all rows of a text are
pub rows-sorted : (s : List ℕ) (rows : List Row) (items : List Item) → Sorted rows → Sorted (rows_after s rows items)
unfolding rows_after
rows-sorted s rows [] h = h
rows-sorted s rows (item ∷ items) h = rows-sorted s (rows ++ declares s rows item) items (sorted-append rows _ h (declares-sorted s rows item))
