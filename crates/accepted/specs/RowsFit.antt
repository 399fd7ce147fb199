-- The rows that a text declares: numbers in range, and a name that is known means one of them.
use Rattle.std.specs.Prelude.{ℕ, zero, suc, ◌+◌, ◌≤◌, ◌<◌, Bool, cond, ltb, get_or}
use native.Mathlib.Omega.{arith}
use Rattle.std.proofs.Math.Path.{◌≡◌, refl}
use mathlib.Core.List.{List, [], ◌∷◌, ◌++◌, append-nil}
use Rattle.std.proofs.Math.Bool.{true, false}
use Rattle.std.proofs.Math.Option.{none}
use borrow.Author.Tests.{eqb-true, ltb-false}
use Rattle.std.proofs.Math.Dec.{eqb}
use Rattle.text.specs.declared.Name.{Name}
use Rattle.text.specs.declared.Literal.{Literal}
use Rattle.text.specs.declared.Literal.TheVariants.{Truth, Number, Named}
use Rattle.text.specs.declared.State.{State}
use Rattle.text.specs.declared.Item.{Item}
use Rattle.text.specs.Items.{syntax_of}
use Rattle.timing.specs.SlotLaws.{Each}
use Rattle.refusals.specs.declared.Row.{Row}
use Rattle.refusals.specs.Verdicts.{Fine}
use Rattle.refusals.specs.Checks.{first}
use Rattle.refusals.specs.ChecksLaws.{fine-parts, fine-one}
use Rattle.refusals.specs.Names.{module_scope, constant_sort, task_sort, mode_sort, is_sort, is_port, unknown, is_unknown, is_row, find, meaning, named, count, no_type}
use Rattle.refusals.specs.NamesLaws.{count-append}
use Rattle.refusals.specs.Values.{number_of, int_word, constant_named, literal_word, use_rules, value_rules}
use Rattle.refusals.specs.Declarations.{tasks_in, modes_in, ports_in, declares, new_rules}
use Rattle.refusals.specs.Rules.{Env, grow, rules}
use Rattle.refusals.specs.Texts.{verdict_of}
use Rattle.accepted.specs.Steps.{Comes, module-begins, module-section, constant, sensor, actuator, task-begins, task-section, input, output, task-ends, mode-begins, mode-section, activity, guard-alone, guard, guard-arg, guard-last, invoke-alone, invoke, arg, arg-last, update, switch, mode-ends, module-ends, text-ends}
use Rattle.accepted.specs.Folds.{Reaches, whole, all_rows, last_env, last-rows}
use Rattle.accepted.specs.Lists.{each_append, each_map}

-- below what the value of a row of this sort is: a constant's is a word, a task's, a mode's and a port's a number of one
abbrev pub limit_of : ℕ → ℕ → ℕ → ℕ → ℕ
limit_of ports tasks modes sort = get_or (4294967296 ∷ ports ∷ ports ∷ tasks ∷ modes ∷ ports ∷ ports ∷ []) sort 0

abbrev pub limit_in : List Row → ℕ → ℕ
limit_in rows sort = limit_of (ports_in rows) (tasks_in rows) (modes_in rows) sort

pub record RowFits (rows : List Row) (row : Row) : Type 0 where
  pub valued : row.value < limit_in rows row.sort
  pub scoped : row.scope ≤ tasks_in rows

limit-more : (p t m p' t' m' : ℕ) → p ≤ p' → t ≤ t' → m ≤ m' → (sort : ℕ) → limit_of p t m sort ≤ limit_of p' t' m' sort
limit-more p t m p' t' m' a b c zero = omega arith
limit-more p t m p' t' m' a b c (suc zero) = a
limit-more p t m p' t' m' a b c (suc (suc zero)) = a
limit-more p t m p' t' m' a b c (suc (suc (suc zero))) = b
limit-more p t m p' t' m' a b c (suc (suc (suc (suc zero)))) = c
limit-more p t m p' t' m' a b c (suc (suc (suc (suc (suc zero))))) = a
limit-more p t m p' t' m' a b c (suc (suc (suc (suc (suc (suc zero)))))) = a
limit-more p t m p' t' m' a b c (suc (suc (suc (suc (suc (suc (suc sort))))))) = omega arith

module _ (test : Row → Bool) (rows more : List Row) where
  pub count-more : count test rows ≤ count test (rows ++ more)
  count-more = let e = count-append test rows more in omega (arith, e)

  pub count_none : count test more ≡ 0 → count test (rows ++ more) ≡ count test rows
  count_none z = let e = count-append test rows more in omega (arith, e, z)

module _ (test : Row → Bool) (rows : List Row) (row : Row) where
  pub count_next : test row ≡ true → count test (rows ++ (row ∷ [])) ≡ count test rows + 1
  unfolding count
  count_next e = let a = count-append test rows (row ∷ []) in let b : count test (row ∷ []) ≡ 1 = rw e in omega (arith, a, b)

  pub count_same : test row ≡ false → count test (rows ++ (row ∷ [])) ≡ count test rows
  unfolding count
  count_same e = let a = count-append test rows (row ∷ []) in let b : count test (row ∷ []) ≡ 0 = rw e in omega (arith, a, b)

  pub count-one : test row ≡ true → count test rows < count test (rows ++ (row ∷ []))
  count-one e = let a = count_next e in omega (arith, a)

pub fits_more : (rows more : List Row) (row : Row) → RowFits rows row → RowFits (rows ++ more) row
fits_more rows more row f =
    let l = limit-more (ports_in rows) (tasks_in rows) (modes_in rows) (ports_in (rows ++ more)) (tasks_in (rows ++ more)) (modes_in (rows ++ more)) (count-more is_port rows more) (count-more (is_sort task_sort) rows more) (count-more (is_sort mode_sort) rows more) row.sort in
    record { valued = omega (arith, l, f.valued); scoped = omega (arith, count-more (is_sort task_sort) rows more, f.scoped) }

abbrev pub RowsFit : List Row → Type 0
RowsFit rows = Each (RowFits rows) rows

one_more : (rows : List Row) (row : Row) → RowsFit rows → RowFits (rows ++ (row ∷ [])) row → RowsFit (rows ++ (row ∷ []))
one_more rows row h f = each_append (RowFits (rows ++ (row ∷ []))) rows (row ∷ []) (each_map (RowFits rows) (RowFits (rows ++ (row ∷ []))) (fits_more rows (row ∷ [])) rows h) (f, tt)

-- ---- a name that is known means a row

module _ (C : Row → Type 0) (s : List ℕ) where
  find-in : (rows : List Row) (scope : ℕ) (word : List ℕ) → Each C rows → is_unknown (find s rows scope word) ≡ false → C (find s rows scope word)
  unfolding find
  find-in [] scope word h e = let z : ◌≡◌ {A = ℕ} 0 1 = cc in absurd (omega arith)
  find-in (row ∷ rows) scope word h e = by (is_row s scope word row) e (find-in rows scope word h.1)
    where
      by : (b : Bool) → is_unknown (cond b row (find s rows scope word)) ≡ false → (is_unknown (find s rows scope word) ≡ false → C (find s rows scope word)) → C (cond b row (find s rows scope word))
      by true e on = h.0
      by false e on = on e

  pub named_in : (rows : List Row) (scope sort : ℕ) (name : Name) → Each C rows → is_unknown (named s rows scope sort name) ≡ false → C (named s rows scope sort name) × ((named s rows scope sort name).sort ≡ sort)
  unfolding named
  named_in rows scope sort name h e = by (eqb (meaning s rows scope name).sort sort) refl e
    where
      by : (b : Bool) → eqb (meaning s rows scope name).sort sort ≡ b → is_unknown (cond b (meaning s rows scope name) unknown) ≡ false → C (cond b (meaning s rows scope name) unknown) × ((cond b (meaning s rows scope name) unknown).sort ≡ sort)
      by true q e = (find-in rows scope _ h e, eqb-true _ _ q)
      by false q e = let z : ◌≡◌ {A = ℕ} 0 1 = cc in absurd (omega arith)

-- so its value is below the limit of its sort
pub named-below : (s : List ℕ) (rows : List Row) (whole : List Row) (scope sort : ℕ) (name : Name) → Each (RowFits whole) rows → is_unknown (named s rows scope sort name) ≡ false → (named s rows scope sort name).value < limit_in whole sort
named-below s rows whole scope sort name h e =
    let (f, q) = named_in (RowFits whole) s rows scope sort name h e in
    rw q at f.valued

-- ---- a constant's value is a word

word_fits : (number : ℕ) (minus : Bool) → ltb (cond minus 2147483648 2147483647) number ≡ false → int_word number minus < 4294967296
word_fits number true e = omega arith
word_fits number false e = let l = ltb-false 2147483647 number e in omega (arith, l)

pub use-known : (wanted : ℕ) (row : Row) (name : Name) → first (use_rules wanted row name) ≡ Fine → is_unknown row ≡ false
unfolding use_rules
use-known wanted row name v = (fine-one _ _ (fine-one _ _ v).1).0

pub value-word : (s : List ℕ) (rows whole : List Row) (wanted : ℕ) (value : Literal) → Each (RowFits whole) rows → first (value_rules s rows wanted value) ≡ Fine → literal_word s rows value < 4294967296
unfolding value_rules
value-word s rows whole wanted (Truth at true) h v = omega arith
value-word s rows whole wanted (Truth at false) h v = omega arith
value-word s rows whole wanted (Number at digits minus) h v = word_fits (number_of s digits) minus (fine-one _ _ (fine-one _ _ v).1).0
value-word s rows whole wanted (Named name) h v = named-below s rows whole module_scope constant_sort name h (use-known wanted (constant_named s rows name) name v)

-- ---- along a text

abbrev pub Fitting : State → ℕ → Env → Type 0
Fitting q at env = RowsFit env.rows

unchanged : (rows : List Row) → RowsFit rows → RowsFit (rows ++ [])
unchanged rows h = rw (append-nil rows) h

module _ (s : List ℕ) (all : List Row) (last : Env) where
  pub fitting : {q p : State} {at next : ℕ} {item : Item} (env : Env) → Comes s q at item p next → first (rules s all env item) ≡ Fine → Reaches s all last (grow s all env item) → Fitting q at env → Fitting p next (grow s all env item)
  unfolding count
  fitting env (module-begins name) v r h = unchanged env.rows h
  fitting env (module-section k w l b) v r h = unchanged env.rows h
  fitting env (constant name value) v r h =
      let (v0, v1) = fine-parts (new_rules s env.rows constant_sort name) (value_rules s env.rows no_type value) v in
      one_more env.rows _ h (record { valued = value-word s env.rows env.rows no_type value h v1; scoped = omega arith })
  fitting env (sensor typ name getter) v r h = one_more env.rows _ h (record { valued = count-one is_port env.rows _ refl; scoped = omega arith })
  fitting env (actuator typ name value setter) v r h = one_more env.rows _ h (record { valued = count-one is_port env.rows _ refl; scoped = omega arith })
  fitting env (task-begins k name l) v r h = one_more env.rows _ h (record { valued = count-one (is_sort task_sort) env.rows _ refl; scoped = omega arith })
  fitting env (task-section k w l) v r h = unchanged env.rows h
  fitting env (input typ name) v r h = one_more env.rows _ h (record { valued = count-one is_port env.rows _ refl; scoped = count-more (is_sort task_sort) env.rows _ })
  fitting env (output typ name value) v r h = one_more env.rows _ h (record { valued = count-one is_port env.rows _ refl; scoped = count-more (is_sort task_sort) env.rows _ })
  fitting env (task-ends k name) v r h = unchanged env.rows h
  fitting env (mode-begins k start begin name digits milli l) v r h = one_more env.rows _ h (record { valued = count-one (is_sort mode_sort) env.rows _ refl; scoped = omega arith })
  fitting env (mode-section k w l b) v r h = unchanged env.rows h
  fitting env (activity k begin digits l) v r h = unchanged env.rows h
  fitting env (guard-alone k name) v r h = unchanged env.rows h
  fitting env (guard k name many c) v r h = unchanged env.rows h
  fitting env (guard-arg k port c) v r h = unchanged env.rows h
  fitting env (guard-last k port c) v r h = unchanged env.rows h
  fitting env (invoke-alone name d) v r h = unchanged env.rows h
  fitting env (invoke name many d c) v r h = unchanged env.rows h
  fitting env (arg port c) v r h = unchanged env.rows h
  fitting env (arg-last port c) v r h = unchanged env.rows h
  fitting env (update name source d) v r h = unchanged env.rows h
  fitting env (switch k name d a b) v r h = unchanged env.rows h
  fitting env (mode-ends k) v r h = unchanged env.rows h
  fitting env (module-ends k) v r h = unchanged env.rows h
  fitting env text-ends v r h = unchanged env.rows h

pub rows_fit : (s : List ℕ) → syntax_of s ≡ none → verdict_of s ≡ Fine → RowsFit (all_rows s)
rows_fit s e v =
    let w = whole s e v Fitting (λ q p at next item. fitting s (all_rows s) (last_env s)) tt in
    rw (last-rows s) at w.holds
