-- The inputs and the outputs of each task: within the room, and as many as the rows of its scope.
use Rattle.std.specs.Prelude.{ℕ, zero, suc, ◌+◌, ◌≤◌, ◌<◌, ◌≡◌, refl, Bool, true, false, eqb, length, get_or}
use Rattle.std.proofs.Common.{arith, sym, ◌∙◌, eq-eqb, ne_eqb, length-append}
use Rattle.std.proofs.Math.Path.{ap}
use mathlib.Core.List.{List, [], ◌∷◌, ◌++◌, append-nil}
use Rattle.std.proofs.Math.Option.{none}
use Rattle.model.specs.Modules.{Task, no_task}
use Rattle.text.specs.declared.State.{State}
use Rattle.text.specs.declared.State.TheVariants as Q
use Rattle.text.specs.declared.Item.{Item}
use Rattle.text.specs.Items.{syntax_of}
use Rattle.timing.specs.SlotLaws.{Each}
use Rattle.refusals.specs.declared.Row.{Row}
use Rattle.refusals.specs.Verdicts.{Fine}
use Rattle.refusals.specs.Checks.{first}
use Rattle.refusals.specs.ChecksLaws.{fine-parts}
use Rattle.refusals.specs.Names.{letters, task_sort, input_sort, output_sort, count, types, is_sort, is_port_of, row_of}
use Rattle.refusals.specs.NamesLaws.{types-append, types-count}
use Rattle.refusals.specs.Values.{type_named, type_rules, literal_word}
use Rattle.refusals.specs.Declarations.{tasks_in, ports_in, last_scope}
use Rattle.refusals.specs.Draft.{with_function}
use Rattle.refusals.specs.Rules.{Env, grow, rules}
use Rattle.refusals.specs.Texts.{verdict_of, module_of}
use Rattle.accepted.specs.Steps.{plain, guarded, Comes, module-begins, module-section, constant, sensor, actuator, task-begins, task-section, input, output, task-ends, mode-begins, mode-section, activity, guard-alone, guard, guard-arg, guard-last, invoke-alone, invoke, arg, arg-last, update, switch, mode-ends, module-ends, text-ends}
use Rattle.accepted.specs.Folds.{Reaches, whole, all_rows, last_env, last-rows}
use Rattle.accepted.specs.RowsFit.{RowFits, count_next, count_same, Fitting, fitting}
use Rattle.accepted.specs.RowsRoom.{port-room}
use Rattle.accepted.specs.Tallies.{Tallying, tallying, nothing_yet}

-- the ports of tasks from task n on
abbrev pub Told : ℕ → List Row → List Task → Type 0
Told n rows [] = Unit {0}
Told n rows (task ∷ tasks) = (task.inputs ≡ types (is_port_of (n + 1) input_sort) rows) × (length task.inputs ≤ 8) × (length task.outputs ≤ 8) × Told (n + 1) rows tasks

module _ (test : Row → Bool) (rows : List Row) (row : Row) where
  types-next : test row ≡ true → types test (rows ++ (row ∷ [])) ≡ types test rows ++ (row.typ ∷ [])
  unfolding types
  types-next e = types-append test rows (row ∷ []) ∙ ap (λ (l : List ℕ). types test rows ++ l) (rw e)

  types_same : test row ≡ false → types test (rows ++ (row ∷ [])) ≡ types test rows
  unfolding types
  types_same e = types-append test rows (row ∷ []) ∙ ap (λ (l : List ℕ). types test rows ++ l) (rw e) ∙ append-nil (types test rows)

empty : (l : List ℕ) → length l ≡ 0 → [] ≡ l
empty [] e = refl
empty (x ∷ l) e = absurd (omega arith)

told_more : (rows : List Row) (row : Row) (n : ℕ) (tasks : List Task) → Told n rows tasks → ((k : ℕ) → n < k → k ≤ n + length tasks → row.scope ≡ k → ⊥) → Told n (rows ++ (row ∷ [])) tasks
told_more rows row n [] h far = tt
told_more rows row n (task ∷ tasks) h far =
    let other : is_port_of (n + 1) input_sort row ≡ false = rw (ne_eqb row.scope (n + 1) (far (n + 1) (omega arith) (omega arith))) in
    (h.0 ∙ sym (types_same (is_port_of (n + 1) input_sort) rows row other), h.1, h.2, told_more rows row (n + 1) tasks h.3 (λ k a b e. far k (omega arith) (omega arith) e))

told-append : (rows : List Row) (task : Task) (n : ℕ) (tasks : List Task) → Told n rows tasks → task.inputs ≡ types (is_port_of (n + length tasks + 1) input_sort) rows → length task.inputs ≤ 8 → length task.outputs ≤ 8 → Told n rows (tasks ++ (task ∷ []))
told-append rows task n [] h e i l = let z : n + 0 + 1 ≡ n + 1 = omega arith in (rw z at e, i, l, tt)
told-append rows task n (other ∷ tasks) h e i l =
    let z : n + length (other ∷ tasks) + 1 ≡ n + 1 + length tasks + 1 = omega arith in
    (h.0, h.1, h.2, told-append rows task (n + 1) tasks h.3 (rw z at e) i l)

-- no row is of a later scope
scope-none : (rows : List Row) (whole : List Row) (scope sort : ℕ) → Each (RowFits whole) rows → tasks_in whole < scope → count (is_port_of scope sort) rows ≡ 0
unfolding count
scope-none [] whole scope sort h l = refl
scope-none (row ∷ rows) whole scope sort h l =
    let e : eqb row.scope scope ≡ false = ne_eqb row.scope scope (λ q. omega (arith, h.0.scoped, q)) in
    rw e (scope-none rows whole scope sort h.1 l)

-- the ports of the task under way
pub record Under (rows : List Row) (task : Task) : Type 0 where
  pub inputs_are : task.inputs ≡ types (is_port_of (tasks_in rows) input_sort) rows
  pub few-inputs : length task.inputs ≤ 8
  pub outputs-are : length task.outputs ≡ count (is_port_of (tasks_in rows) output_sort) rows
  pub few : length task.outputs ≤ 8

abbrev UnderIn : State → List Row → Task → Type 0
UnderIn Q.Begin rows task = Unit {0}
UnderIn (Q.Module k) rows task = Unit {0}
UnderIn (Q.Task k) rows task = Under rows task
UnderIn (Q.Mode k) rows task = Unit {0}
UnderIn (Q.Act k) rows task = Unit {0}
UnderIn (Q.Guarded k) rows task = Unit {0}
UnderIn (Q.GuardArgs k) rows task = Unit {0}
UnderIn Q.Args rows task = Unit {0}
UnderIn Q.Finish rows task = Unit {0}

abbrev pub Ported : State → ℕ → Env → Type 0
Ported q at env = Told 0 env.rows env.draft.built.tasks × UnderIn q env.rows env.draft.task

abbrev pub Porting : State → ℕ → Env → Type 0
Porting q at env = Fitting q at env × Tallying q at env × Ported q at env

told_same : (rows : List Row) (tasks : List Task) → Told 0 rows tasks → Told 0 (rows ++ []) tasks
told_same rows tasks h = rw (append-nil rows) h

-- a row of the module's scope
told-plain : (rows : List Row) (row : Row) (tasks : List Task) → row.scope ≡ 0 → Told 0 rows tasks → Told 0 (rows ++ (row ∷ [])) tasks
told-plain rows row tasks z h = told_more rows row 0 tasks h (λ k a b e. omega (arith, z, e))

-- a row of the last task's scope
told-port : (rows : List Row) (row : Row) (tasks : List Task) → row.scope ≡ tasks_in rows → tasks_in rows ≡ length tasks + 1 → Told 0 rows tasks → Told 0 (rows ++ (row ∷ [])) tasks
told-port rows row tasks z t h = told_more rows row 0 tasks h (λ k a b e. omega (arith, z, t, e))

module _ (rows : List Row) (row : Row) (z : row.scope ≡ tasks_in rows) where
  same-scope : row.sort ≡ input_sort → tasks_in (rows ++ (row ∷ [])) ≡ tasks_in rows
  same-scope e = count_same (is_sort task_sort) rows row (rw e)

  input-counts : row.sort ≡ input_sort → (types (is_port_of (tasks_in rows) input_sort) (rows ++ (row ∷ [])) ≡ types (is_port_of (tasks_in rows) input_sort) rows ++ (row.typ ∷ [])) × (count (is_port_of (tasks_in rows) output_sort) (rows ++ (row ∷ [])) ≡ count (is_port_of (tasks_in rows) output_sort) rows)
  input-counts e = (types-next (is_port_of (tasks_in rows) input_sort) rows row (rw (eq-eqb row.scope (tasks_in rows) z, e)), count_same (is_port_of (tasks_in rows) output_sort) rows row (rw (eq-eqb row.scope (tasks_in rows) z, e)))

  output-counts : row.sort ≡ output_sort → (types (is_port_of (tasks_in rows) input_sort) (rows ++ (row ∷ [])) ≡ types (is_port_of (tasks_in rows) input_sort) rows) × (count (is_port_of (tasks_in rows) output_sort) (rows ++ (row ∷ [])) ≡ count (is_port_of (tasks_in rows) output_sort) rows + 1)
  output-counts e = (types_same (is_port_of (tasks_in rows) input_sort) rows row (rw (eq-eqb row.scope (tasks_in rows) z, e)), count_next (is_port_of (tasks_in rows) output_sort) rows row (rw (eq-eqb row.scope (tasks_in rows) z, e)))

  tasks-still : (row.sort ≡ input_sort → ⊥) → row.sort ≡ output_sort → tasks_in (rows ++ (row ∷ [])) ≡ tasks_in rows
  tasks-still n e = count_same (is_sort task_sort) rows row (rw e)

under-begins : (rows : List Row) (row : Row) (name : List ℕ) → Each (RowFits rows) rows → row.scope ≡ 0 → row.sort ≡ task_sort → Under (rows ++ (row ∷ [])) (record { name = name; function = []; inputs = []; outputs = [] })
under-begins rows row name h z e =
    let t = count_next (is_sort task_sort) rows row (rw e) in
    let none_of : (sort : ℕ) → 0 ≡ count (is_port_of (tasks_in (rows ++ (row ∷ []))) sort) (rows ++ (row ∷ [])) = λ sort. rw t (sym (count_same (is_port_of (tasks_in rows + 1) sort) rows row (rw (ne_eqb row.scope (tasks_in rows + 1) (λ q. omega (arith, z, q)))) ∙ scope-none rows rows (tasks_in rows + 1) sort h (omega arith))) in
    record { inputs_are = empty _ (types-count _ _ ∙ sym (none_of input_sort)); few-inputs = omega arith; outputs-are = none_of output_sort; few = omega arith }

module _ (s : List ℕ) (all : List Row) (last : Env) where
  ported : {q p : State} {at next : ℕ} {item : Item} (env : Env) → Comes s q at item p next → first (rules s all env item) ≡ Fine → Fitting q at env → Tallying q at env → Ported q at env → Ported p next (grow s all env item)
  ported env (module-begins name) v f g h = (told_same env.rows env.draft.built.tasks h.0, tt)
  ported env (module-section k w l b) v f g h = (told_same env.rows env.draft.built.tasks h.0, tt)
  ported env (constant name value) v f g h = (told-plain env.rows _ env.draft.built.tasks refl h.0, tt)
  ported env (sensor typ name getter) v f g h = (told-plain env.rows _ env.draft.built.tasks refl h.0, tt)
  ported env (actuator typ name value setter) v f g h = (told-plain env.rows _ env.draft.built.tasks refl h.0, tt)
  ported env (task-begins k name l) v f g h = (told-plain env.rows _ env.draft.built.tasks refl h.0, under-begins env.rows _ _ f refl refl)
  ported env (task-section k w l) v f g h = (told_same env.rows env.draft.built.tasks h.0, rw (append-nil env.rows) h.1)
  ported env (input typ name) v f g h =
      let row = row_of name (last_scope env.rows) input_sort (type_named s typ) (ports_in env.rows) in
      let t = same-scope env.rows row refl refl in
      let c = input-counts env.rows row refl refl in
      let n = length-append env.draft.task.inputs (type_named s typ ∷ []) in
      let m = (port-room s env.rows input_sort name (fine-parts (type_rules s typ) _ v).1).0 in
      let i : length env.draft.task.inputs ≡ count (is_port_of (tasks_in env.rows) input_sort) env.rows = ap (λ (l : List ℕ). length l) h.1.inputs_are ∙ types-count _ env.rows in
      (told-port env.rows row env.draft.built.tasks refl g.of-tasks h.0, record { inputs_are = rw t (ap (λ (l : List ℕ). l ++ (type_named s typ ∷ [])) h.1.inputs_are ∙ sym c.0); few-inputs = omega (arith, n, i, m); outputs-are = rw t (omega (arith, c.1, h.1.outputs-are)); few = h.1.few })
  ported env (output typ name value) v f g h =
      let row = row_of name (last_scope env.rows) output_sort (type_named s typ) (ports_in env.rows) in
      let t = tasks-still env.rows row refl (λ e. omega (arith, e)) refl in
      let c = output-counts env.rows row refl refl in
      let n = length-append env.draft.task.outputs (record { name = letters s name; type = type_named s typ; start = literal_word s env.rows value } ∷ []) in
      let m = (port-room s env.rows output_sort name (fine-parts _ _ (fine-parts (type_rules s typ) _ v).1).0).0 in
      (told-port env.rows row env.draft.built.tasks refl g.of-tasks h.0, record { inputs_are = rw t (h.1.inputs_are ∙ sym c.0); few-inputs = h.1.few-inputs; outputs-are = rw t (omega (arith, n, c.1, h.1.outputs-are)); few = omega (arith, n, m, h.1.outputs-are) })
  ported env (task-ends k name) v f g h =
      let t = g.of-tasks in
      let e : tasks_in env.rows ≡ 0 + length env.draft.built.tasks + 1 = omega (arith, t) in
      (told_same env.rows (env.draft.built.tasks ++ (with_function env.draft.task (letters s name) ∷ [])) (told-append env.rows (with_function env.draft.task (letters s name)) 0 env.draft.built.tasks h.0 (rw e at h.1.inputs_are) h.1.few-inputs h.1.few), tt)
  ported env (mode-begins k start begin name digits milli l) v f g h = (told-plain env.rows _ env.draft.built.tasks refl h.0, tt)
  ported env (mode-section k w l b) v f g h = (told_same env.rows env.draft.built.tasks h.0, tt)
  ported env (activity k begin digits l) v f g h = (told_same env.rows env.draft.built.tasks h.0, tt)
  ported env (guard-alone k name) v f g h = (told_same env.rows env.draft.built.tasks h.0, tt)
  ported env (guard k name many c) v f g h = (told_same env.rows env.draft.built.tasks h.0, tt)
  ported env (guard-arg k port c) v f g h = (told_same env.rows env.draft.built.tasks h.0, tt)
  ported env (guard-last k port c) v f g h = (told_same env.rows env.draft.built.tasks h.0, tt)
  ported env (invoke-alone name plain) v f g h = (told_same env.rows env.draft.built.tasks h.0, tt)
  ported env (invoke-alone name guarded) v f g h = (told_same env.rows env.draft.built.tasks h.0, tt)
  ported env (invoke name many plain c) v f g h = (told_same env.rows env.draft.built.tasks h.0, tt)
  ported env (invoke name many guarded c) v f g h = (told_same env.rows env.draft.built.tasks h.0, tt)
  ported env (arg port c) v f g h = (told_same env.rows env.draft.built.tasks h.0, tt)
  ported env (arg-last port c) v f g h = (told_same env.rows env.draft.built.tasks h.0, tt)
  ported env (update name source plain) v f g h = (told_same env.rows env.draft.built.tasks h.0, tt)
  ported env (update name source guarded) v f g h = (told_same env.rows env.draft.built.tasks h.0, tt)
  ported env (switch k name plain a b) v f g h = (told_same env.rows env.draft.built.tasks h.0, tt)
  ported env (switch k name guarded a b) v f g h = (told_same env.rows env.draft.built.tasks h.0, tt)
  ported env (mode-ends k) v f g h = (told_same env.rows env.draft.built.tasks h.0, tt)
  ported env (module-ends k) v f g h = (told_same env.rows env.draft.built.tasks h.0, tt)
  ported env text-ends v f g h = (told_same env.rows env.draft.built.tasks h.0, tt)

  pub porting : {q p : State} {at next : ℕ} {item : Item} (env : Env) → Comes s q at item p next → first (rules s all env item) ≡ Fine → Reaches s all last (grow s all env item) → Porting q at env → Porting p next (grow s all env item)
  porting env c v r h = (fitting s all last env c v r h.0, tallying s all last env c v r h.1, ported env c v h.0 h.1 h.2)

-- of an accepted text
pub tasks-told : (s : List ℕ) → syntax_of s ≡ none → verdict_of s ≡ Fine → Told 0 (all_rows s) (module_of s).tasks
tasks-told s e v =
    let w = whole s e v Porting (λ q p at next item. porting s (all_rows s) (last_env s)) (tt, nothing_yet, (tt, tt)) in
    rw (last-rows s) at w.holds.2.0

pub told-few : (n : ℕ) (rows : List Row) (tasks : List Task) → Told n rows tasks → Each (λ t. length t.outputs ≤ 8) tasks
told-few n rows [] h = tt
told-few n rows (task ∷ tasks) h = (h.2, told-few (n + 1) rows tasks h.3)

pub told-few-inputs : (n : ℕ) (rows : List Row) (tasks : List Task) → Told n rows tasks → Each (λ t. length t.inputs ≤ 8) tasks
told-few-inputs n rows [] h = tt
told-few-inputs n rows (task ∷ tasks) h = (h.1, told-few-inputs (n + 1) rows tasks h.3)

pub told-types : (n : ℕ) (rows : List Row) (tasks : List Task) (k : ℕ) → Told n rows tasks → k < length tasks → (get_or tasks k no_task).inputs ≡ types (is_port_of (n + k + 1) input_sort) rows
told-types n rows [] k h l = absurd (omega arith)
told-types n rows (task ∷ tasks) zero h l = let z : n + 0 + 1 ≡ n + 1 = omega arith in rw z h.0
told-types n rows (task ∷ tasks) (suc k) h l = let z : n + suc k + 1 ≡ n + 1 + k + 1 = omega arith in rw z (told-types (n + 1) rows tasks k h.3 (omega arith))

pub told-inputs : (n : ℕ) (rows : List Row) (tasks : List Task) (k : ℕ) → Told n rows tasks → k < length tasks → length (get_or tasks k no_task).inputs ≡ count (is_port_of (n + k + 1) input_sort) rows
told-inputs n rows tasks k h l = ap (λ (list : List ℕ). length list) (told-types n rows tasks k h l) ∙ types-count _ rows
