-- The table of names in step with the names that are known: as long as no rule is broken it has room for all of them.
use Rattle.std.specs.Prelude.{ℕ, zero, suc, ◌+◌, ◌≤◌, ◌<◌, min, ◌≡◌, refl, List, [], ◌∷◌, ◌++◌, map, Bool, true, false, cond, eqb, length}
use Rattle.std.proofs.Common.{arith, sym, ap, ◌∙◌, append-nil, eqb-true, leb-false, lt-ltb, length-append}
use Rattle.text.specs.declared.Name.{Name}
use Rattle.text.specs.declared.Item.{Item}
use Rattle.text.specs.declared.Item.TheVariants as I
use Rattle.refusals.specs.declared.Row.{Row}
use Rattle.refusals.specs.Verdicts.{Fine}
use Rattle.refusals.specs.Checks.{first}
use Rattle.refusals.specs.ChecksLaws.{fine-parts, fine-one}
use Rattle.refusals.specs.Names.{constant_sort, sensor_sort, actuator_sort, task_sort, mode_sort, input_sort, output_sort, is_sort, count}
use Rattle.refusals.specs.NamesLaws.{Sorted}
use Rattle.refusals.specs.Values.{type_rules}
use Rattle.refusals.specs.Declarations.{room_of, declares, new_rules}
use Rattle.refusals.specs.Activities.{start_rules}
use Rattle.refusals.specs.Rules.{Env, rules}
use Rattle.timing.specs.SlotLaws.{Each}
use Rattle.accepted.specs.RowsFit.{RowFits, RowsFit, count_next, count_same}
use Rattle.accepted.specs.RowsRoom.{room_for, Roomy, port-room}
use Rattle.names.specs.Tables.{rows_from, rows_in, room_in, has_room}
use Rattle.names.specs.TablesLaws.{length-rows}
use Rattle.names.specs.Index.{Indexed, empty_table, table_in}
use Rattle.names.specs.Declaring.{declared-length, declared-rows, empty-long, table_none, table_more}
use Rattle.meanings.specs.Held.{rows_of, held_row}
use Rattle.meanings.specs.declared.declaring.Declaration.{Declaration}
use Rattle.meanings.specs.declared.declaring.Declaration.TheVariants.{Nothing, One}
use Rattle.noting.specs.Known.{row_room}
use Rattle.noting.specs.Laying.{Entered}
use Rattle.noting.specs.Filled.{table-indexed}

-- the array is the table of the names that are known, and its first n rows are they
pub record Rowed (s : List ℕ) (rows : List Row) (cells : List ℕ) (n : ℕ) : Type 0 where
  pub same : rows_in cells n ≡ rows
  pub table : cells ≡ table_in s rows
  pub long : length cells ≡ 4672
  pub roomy : Roomy rows
  pub fits : RowsFit rows
  pub sorted : Sorted rows

-- its index is right
pub rowed-index : {s : List ℕ} {rows : List Row} {cells : List ℕ} {n : ℕ} → Rowed s rows cells n → Indexed s cells
rowed-index {s} {rows} w = rw w.table (table-indexed s rows)

-- at the beginning of a text
pub rowed-first : (s : List ℕ) → Rowed s [] empty_table 0
unfolding rows_from count
rowed-first s =
    record { same = refl; table = sym (table_none s); long = empty-long; roomy = record { room = λ sort. omega arith }; fits = tt; sorted = tt }

pub rowed-size : {s : List ℕ} {rows : List Row} {cells : List ℕ} {n : ℕ} → Rowed s rows cells n → length rows ≡ n
rowed-size {s} {rows} {cells} {n} w = ap (λ (l : List Row). length l) (sym w.same) ∙ length-rows n cells 0

-- ---- room for one more

-- the number of one in each sort
abbrev in_sorts : ℕ → ℕ
in_sorts sort = cond (eqb sort 0) 1 0 + cond (eqb sort 1) 1 0 + cond (eqb sort 2) 1 0 + cond (eqb sort 3) 1 0 + cond (eqb sort 4) 1 0 + cond (eqb sort 5) 1 0 + cond (eqb sort 6) 1 0

one-sort : (sort : ℕ) → sort < 7 → in_sorts sort ≡ 1
one-sort zero h = refl
one-sort (suc zero) h = refl
one-sort (suc (suc zero)) h = refl
one-sort (suc (suc (suc zero))) h = refl
one-sort (suc (suc (suc (suc zero)))) h = refl
one-sort (suc (suc (suc (suc (suc zero))))) h = refl
one-sort (suc (suc (suc (suc (suc (suc zero)))))) h = refl
one-sort (suc (suc (suc (suc (suc (suc (suc sort))))))) h = absurd (omega arith)

-- the rows of all sorts
abbrev all_sorts : List Row → ℕ
all_sorts rows =
    count (is_sort 0) rows + count (is_sort 1) rows + count (is_sort 2) rows + count (is_sort 3) rows + count (is_sort 4) rows + count (is_sort 5) rows + count (is_sort 6) rows

counted : (b : Bool) (n : ℕ) → cond b (n + 1) n ≡ n + cond b 1 0
counted true n = refl
counted false n = omega arith

length-sorts : (rows : List Row) → Sorted rows → length rows ≡ all_sorts rows
unfolding count
length-sorts [] h = refl
length-sorts (row ∷ rows) h =
    let e = length-sorts rows h.1 in
    let o = one-sort row.sort h.0 in
    let at : (k : ℕ) → count (is_sort k) (row ∷ rows) ≡ count (is_sort k) rows + cond (eqb row.sort k) 1 0 = λ k. counted (eqb row.sort k) (count (is_sort k) rows) in
    omega (arith, e, o, at 0, at 1, at 2, at 3, at 4, at 5, at 6)

-- a row that joins these has room in its sort, and joins alone
abbrev pub Joined : List Row → List Row → Type 0
Joined rows [] = Unit {0}
Joined rows (row ∷ more) = (count (is_sort row.sort) rows < room_for row.sort) × (more ≡ [])

-- all rows within the rooms have room together
all_room : (rows : List Row) → Roomy rows → Sorted rows → length rows ≤ row_room
all_room rows r h = omega (arith, length-sorts rows h, r.room 0, r.room 1, r.room 2, r.room 3, r.room 4, r.room 5, r.room 6)

pub rows-room : {s : List ℕ} {rows : List Row} {cells : List ℕ} {n : ℕ} → Rowed s rows cells n → length rows ≤ row_room
rows-room {s} {rows} w = all_room rows w.roomy w.sorted

room-one : (rows : List Row) (row : Row) → Roomy rows → count (is_sort row.sort) rows < room_for row.sort → Roomy (rows ++ (row ∷ []))
room-one rows row h l = record { room = λ sort. by sort (eqb row.sort sort) refl }
  where
    by : (sort : ℕ) (b : Bool) → eqb row.sort sort ≡ b → count (is_sort sort) (rows ++ (row ∷ [])) ≤ room_for sort
    by sort true e =
        let n = count_next (is_sort sort) rows row e in
        let k : count (is_sort sort) rows < room_for sort = rw (eqb-true row.sort sort e) at l in
        omega (arith, n, k)
    by sort false e = rw (count_same (is_sort sort) rows row e) (h.room sort)

-- ---- what an item declares that breaks no rule

new-room : (s : List ℕ) (rows : List Row) (sort : ℕ) (name : Name) → first (new_rules s rows sort name) ≡ Fine → count (is_sort sort) rows < room_of sort
unfolding new_rules
new-room s rows sort name v = leb-false _ _ (fine-one _ _ (fine-one _ _ (fine-one _ _ v).1).1).0

pub joins : (s : List ℕ) (all : List Row) (env : Env) (item : Item) → first (rules s all env item) ≡ Fine → Joined env.rows (declares s env.rows item)
joins s all env (I.Module name) v = tt
joins s all env I.Section v = tt
joins s all env (I.Constant name value) v = (new-room s env.rows constant_sort name (fine-parts _ _ v).0, refl)
joins s all env (I.Sensor typ name getter) v = (new-room s env.rows sensor_sort name (fine-parts _ _ (fine-parts (type_rules s typ) _ v).1).0, refl)
joins s all env (I.Actuator typ name value setter) v = (new-room s env.rows actuator_sort name (fine-parts _ _ (fine-parts (type_rules s typ) _ v).1).0, refl)
joins s all env (I.TaskBegin name) v = (new-room s env.rows task_sort name v, refl)
joins s all env (I.Input typ name) v = ((port-room s env.rows input_sort name (fine-parts (type_rules s typ) _ v).1).1, refl)
joins s all env (I.Output typ name value) v = ((port-room s env.rows output_sort name (fine-parts _ _ (fine-parts (type_rules s typ) _ v).1).0).1, refl)
joins s all env (I.TaskEnd name) v = tt
joins s all env (I.ModeBegin start at name digits milli) v = (new-room s env.rows mode_sort name (fine-parts _ _ (fine-parts (start_rules env.draft.started start at) _ v).1).0, refl)
joins s all env (I.Activity kind at digits) v = tt
joins s all env (I.Guard name arguments) v = tt
joins s all env (I.GuardArg port) v = tt
joins s all env (I.Invoke task arguments) v = tt
joins s all env (I.Arg port) v = tt
joins s all env (I.Update actuator source) v = tt
joins s all env (I.Switch name) v = tt
joins s all env I.ModeEnd v = tt
joins s all env I.ModuleEnd v = tt
joins s all env I.End v = tt
joins s all env (I.No number at) v = tt

-- ---- one row more

each_last : {A : Type 0} (C : A → Type 0) (xs : List A) (x : A) → Each C (xs ++ (x ∷ [])) → C x
each_last C [] x h = h.0
each_last C (y ∷ xs) x h = each_last C xs x h.1

-- a row whose value is below its limit is held as it is
held_same : (rows : List Row) (row : Row) → RowFits rows row → held_row row ≡ row
held_same rows row f = by (eqb row.sort constant_sort) refl
  where
    by : (b : Bool) → eqb row.sort constant_sort ≡ b → held_row row ≡ row
    by false e = simp e
    by true e =
        let l : row.value < 4294967296 = rw (eqb-true row.sort constant_sort e) at f.valued in
        let z : min row.value 4294967296 ≡ row.value = omega arith in
        simp (e, z)

pub rowed-on : {s : List ℕ} {rows : List Row} {cells : List ℕ} {n : ℕ} → Rowed s rows cells n → (more : List Row) → RowsFit (rows ++ more) → Sorted (rows ++ more) → Joined rows more
    → (declaration : Declaration) → rows_of declaration ≡ map held_row more → (after : List ℕ) (count : ℕ) → Entered s cells n declaration after count → Rowed s (rows ++ more) after count
rowed-on {s} {rows} {cells} {n} w [] f h j Nothing e after count d = rw (append-nil rows, d.0, d.1) w
rowed-on w [] f h j (One row) e after count d = let z : ◌≡◌ {A = ℕ} 0 1 = cc in absurd (omega arith)
rowed-on w (row ∷ more) f h j Nothing e after count d = let z : ◌≡◌ {A = ℕ} 0 1 = cc in absurd (omega arith)
rowed-on {s} {rows} {cells} {n} w (row ∷ more) f h j (One other) e after count d = rw j.1 (one (rw j.1 at f) (rw j.1 at h))
  where
    one : RowsFit (rows ++ (row ∷ [])) → Sorted (rows ++ (row ∷ [])) → Rowed s (rows ++ (row ∷ [])) after count
    one g k =
        let told : other ≡ held_row row = cc in
        let is : other ≡ row = told ∙ held_same (rows ++ (row ∷ [])) row (each_last (RowFits (rows ++ (row ∷ []))) rows row g) in
        let size = rowed-size w in
        let roomy = room-one rows row w.roomy j.0 in
        let room : has_room cells n ≡ true = lt-ltb n (room_in cells) (omega (arith, w.long, all_room (rows ++ (row ∷ [])) roomy k, length-append rows (row ∷ []), size)) in
        record {
          same = declared-rows d room ∙ rw (w.same, is);
          table = d.array ∙ rw (is, w.table, ← size) (sym (table_more s rows row));
          long = declared-length d ∙ w.long;
          roomy = roomy;
          fits = g;
          sorted = k;
        }
