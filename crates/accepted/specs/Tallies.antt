-- The rows of each sort are as many as the module has sensors, actuators, tasks, modes and ports.
use Rattle.std.specs.Prelude.{ℕ, ◌+◌, ◌≡◌, refl, List, [], ◌∷◌, ◌++◌, map, Bool, true, false, cond, eqb, length}
use Rattle.std.proofs.Common.{arith, sym, ap, ◌∙◌, append-nil, length-append}
use Rattle.std.proofs.Math.Option.{none}
use Rattle.std.proofs.lemmas.List.{length-map}
use Rattle.model.specs.Modules.{Module, Task, each, task_types, task_ports, port_types}
use Rattle.text.specs.declared.State.{State}
use Rattle.text.specs.declared.State.TheVariants as Q
use Rattle.text.specs.declared.Item.{Item}
use Rattle.text.specs.Items.{syntax_of}
use Rattle.refusals.specs.declared.Row.{Row}
use Rattle.refusals.specs.Verdicts.{Fine}
use Rattle.refusals.specs.Checks.{first}
use Rattle.refusals.specs.Names.{letters, sensor_sort, actuator_sort, task_sort, mode_sort, count, is_sort, is_port}
use Rattle.refusals.specs.Values.{type_named, literal_word}
use Rattle.refusals.specs.Draft.{with_function}
use Rattle.refusals.specs.Rules.{Env, grow, rules}
use Rattle.refusals.specs.Texts.{verdict_of, module_of}
use Rattle.timing.specs.Accepted.{ports}
use Rattle.accepted.specs.Steps.{plain, guarded, Comes, module-begins, module-section, constant, sensor, actuator, task-begins, task-section, input, output, task-ends, mode-begins, mode-section, activity, guard-alone, guard, guard-arg, guard-last, invoke-alone, invoke, arg, arg-last, update, switch, mode-ends, module-ends, text-ends}
use Rattle.accepted.specs.Folds.{Reaches, whole, all_rows, last_env, last-rows}
use Rattle.accepted.specs.Lists.{one-longer}
use Rattle.accepted.specs.RowsFit.{count_next, count_same}

abbrev pub ports_of : List Task → ℕ
ports_of [] = 0
ports_of (task ∷ tasks) = task_ports task + ports_of tasks

ports-append : (tasks more : List Task) → ports_of (tasks ++ more) ≡ ports_of tasks + ports_of more
ports-append [] more = omega arith
ports-append (task ∷ tasks) more = let e = ports-append tasks more in omega (arith, e)

pub record Tallied (rows : List Row) (sensors actuators tasks modes ports : ℕ) : Type 0 where
  pub of-sensors : count (is_sort sensor_sort) rows ≡ sensors
  pub of-actuators : count (is_sort actuator_sort) rows ≡ actuators
  pub of-tasks : count (is_sort task_sort) rows ≡ tasks
  pub of-modes : count (is_sort mode_sort) rows ≡ modes
  pub of-ports : count is_port rows ≡ ports

abbrev bit : Bool → ℕ
bit true = 1
bit false = 0

count-bit : (test : Row → Bool) (rows : List Row) (row : Row) → count test (rows ++ (row ∷ [])) ≡ count test rows + bit (test row)
count-bit test rows row = by (test row) refl
  where
    by : (b : Bool) → test row ≡ b → count test (rows ++ (row ∷ [])) ≡ count test rows + bit b
    by true e = count_next test rows row e
    by false e = let c = count_same test rows row e in omega (arith, c)

tally-one : {a b c d e : ℕ} (rows : List Row) (row : Row) → Tallied rows a b c d e
    → Tallied (rows ++ (row ∷ [])) (a + bit (is_sort sensor_sort row)) (b + bit (is_sort actuator_sort row)) (c + bit (is_sort task_sort row)) (d + bit (is_sort mode_sort row)) (e + bit (is_port row))
tally-one rows row h =
    record {
      of-sensors = count-bit (is_sort sensor_sort) rows row ∙ ap (λ (n : ℕ). n + bit (is_sort sensor_sort row)) h.of-sensors;
      of-actuators = count-bit (is_sort actuator_sort) rows row ∙ ap (λ (n : ℕ). n + bit (is_sort actuator_sort row)) h.of-actuators;
      of-tasks = count-bit (is_sort task_sort) rows row ∙ ap (λ (n : ℕ). n + bit (is_sort task_sort row)) h.of-tasks;
      of-modes = count-bit (is_sort mode_sort) rows row ∙ ap (λ (n : ℕ). n + bit (is_sort mode_sort row)) h.of-modes;
      of-ports = count-bit is_port rows row ∙ ap (λ (n : ℕ). n + bit (is_port row)) h.of-ports;
    }

retold : {a b c d e a' b' c' d' e' : ℕ} {rows : List Row} → Tallied rows a b c d e → a ≡ a' → b ≡ b' → c ≡ c' → d ≡ d' → e ≡ e' → Tallied rows a' b' c' d' e'
retold h p q r s t = record { of-sensors = h.of-sensors ∙ p; of-actuators = h.of-actuators ∙ q; of-tasks = h.of-tasks ∙ r; of-modes = h.of-modes ∙ s; of-ports = h.of-ports ∙ t }

tally-same : {a b c d e : ℕ} (rows : List Row) → Tallied rows a b c d e → Tallied (rows ++ []) a b c d e
tally-same rows h = rw (append-nil rows) h

-- a task, or a mode, is under way
abbrev pub in_task : State → ℕ
in_task Q.Begin = 0
in_task (Q.Module k) = 0
in_task (Q.Task k) = 1
in_task (Q.Mode k) = 0
in_task (Q.Act k) = 0
in_task (Q.Guarded k) = 0
in_task (Q.GuardArgs k) = 0
in_task Q.Args = 0
in_task Q.Finish = 0

abbrev pub in_mode : State → ℕ
in_mode Q.Begin = 0
in_mode (Q.Module k) = 0
in_mode (Q.Task k) = 0
in_mode (Q.Mode k) = 1
in_mode (Q.Act k) = 1
in_mode (Q.Guarded k) = 1
in_mode (Q.GuardArgs k) = 1
in_mode Q.Args = 1
in_mode Q.Finish = 0

abbrev pub ports_under : ℕ → Task → ℕ
ports_under n task = cond (eqb n 1) (task_ports task) 0

abbrev pub Tallying : State → ℕ → Env → Type 0
Tallying q at env =
    Tallied env.rows (length env.draft.built.sensors) (length env.draft.built.actuators) (length env.draft.built.tasks + in_task q) (length env.draft.built.modes + in_mode q)
    (length env.draft.built.sensors + length env.draft.built.actuators + ports_of env.draft.built.tasks + ports_under (in_task q) env.draft.task)

module _ (s : List ℕ) (all : List Row) (last : Env) where
  pub tallying : {q p : State} {at next : ℕ} {item : Item} (env : Env) → Comes s q at item p next → first (rules s all env item) ≡ Fine → Reaches s all last (grow s all env item) → Tallying q at env → Tallying p next (grow s all env item)
  tallying env (module-begins name) v r h = tally-same env.rows h
  tallying env (module-section k w l b) v r h = tally-same env.rows h
  tallying env (constant name value) v r h = retold (tally-one env.rows _ h) (omega arith) (omega arith) (omega arith) (omega arith) (omega arith)
  tallying env (sensor typ name getter) v r h =
      let n = one-longer env.draft.built.sensors (record { name = letters s name; type = type_named s typ; getter = letters s getter }) in
      retold (tally-one env.rows _ h) (sym n) (omega arith) (omega arith) (omega arith) (omega (arith, n))
  tallying env (actuator typ name value setter) v r h =
      let n = one-longer env.draft.built.actuators (record { name = letters s name; type = type_named s typ; start = literal_word s env.rows value; setter = letters s setter }) in
      retold (tally-one env.rows _ h) (omega arith) (sym n) (omega arith) (omega arith) (omega (arith, n))
  tallying env (task-begins k name l) v r h = retold (tally-one env.rows _ h) (omega arith) (omega arith) (omega arith) (omega arith) (omega arith)
  tallying env (task-section k w l) v r h = tally-same env.rows h
  tallying env (input typ name) v r h =
      let n = one-longer env.draft.task.inputs (type_named s typ) in
      retold (tally-one env.rows _ h) (omega arith) (omega arith) (omega arith) (omega arith) (omega (arith, n))
  tallying env (output typ name value) v r h =
      let n = one-longer env.draft.task.outputs (record { name = letters s name; type = type_named s typ; start = literal_word s env.rows value }) in
      retold (tally-one env.rows _ h) (omega arith) (omega arith) (omega arith) (omega arith) (omega (arith, n))
  tallying env (task-ends k name) v r h =
      let n = one-longer env.draft.built.tasks (with_function env.draft.task (letters s name)) in
      let p = ports-append env.draft.built.tasks (with_function env.draft.task (letters s name) ∷ []) in
      tally-same env.rows (retold h refl refl (omega (arith, n)) refl (omega (arith, p)))
  tallying env (mode-begins k start begin name digits milli l) v r h = retold (tally-one env.rows _ h) (omega arith) (omega arith) (omega arith) (omega arith) (omega arith)
  tallying env (mode-section k w l b) v r h = tally-same env.rows h
  tallying env (activity k begin digits l) v r h = tally-same env.rows h
  tallying env (guard-alone k name) v r h = tally-same env.rows h
  tallying env (guard k name many c) v r h = tally-same env.rows h
  tallying env (guard-arg k port c) v r h = tally-same env.rows h
  tallying env (guard-last k port c) v r h = tally-same env.rows h
  tallying env (invoke-alone name plain) v r h = tally-same env.rows h
  tallying env (invoke-alone name guarded) v r h = tally-same env.rows h
  tallying env (invoke name many plain c) v r h = tally-same env.rows h
  tallying env (invoke name many guarded c) v r h = tally-same env.rows h
  tallying env (arg port c) v r h = tally-same env.rows h
  tallying env (arg-last port c) v r h = tally-same env.rows h
  tallying env (update name source plain) v r h = tally-same env.rows h
  tallying env (update name source guarded) v r h = tally-same env.rows h
  tallying env (switch k name plain a b) v r h = tally-same env.rows h
  tallying env (switch k name guarded a b) v r h = tally-same env.rows h
  tallying env (mode-ends k) v r h =
      let n = one-longer env.draft.built.modes env.draft.mode in
      tally-same env.rows (retold h refl refl refl (omega (arith, n)) refl)
  tallying env (module-ends k) v r h = tally-same env.rows h
  tallying env text-ends v r h = tally-same env.rows h

pub nothing_yet : Tallied [] 0 0 0 0 0
unfolding count
nothing_yet = record { of-sensors = refl; of-actuators = refl; of-tasks = refl; of-modes = refl; of-ports = refl }

task-ports-length : (tasks : List Task) → length (each task_types tasks) ≡ ports_of tasks
task-ports-length [] = refl
task-ports-length (task ∷ tasks) =
    let e = task-ports-length tasks in
    let a = length-append (task_types task) (each task_types tasks) in
    let b = length-append task.inputs (map (λ o. o.type) task.outputs) in
    let c = length-map task.outputs (λ o. o.type) in
    omega (arith, e, a, b, c)

pub ports-length : (M : Module) → ports M ≡ length M.sensors + length M.actuators + ports_of M.tasks
unfolding port_types
ports-length M =
    let a = length-append (map (λ s. s.type) M.sensors) (map (λ a. a.type) M.actuators ++ each task_types M.tasks) in
    let b = length-append (map (λ a. a.type) M.actuators) (each task_types M.tasks) in
    let c = length-map M.sensors (λ s. s.type) in
    let d = length-map M.actuators (λ a. a.type) in
    let e = task-ports-length M.tasks in
    omega (arith, a, b, c, d, e)

-- the rows of an accepted text, against its module
pub rows-tallied : (s : List ℕ) → syntax_of s ≡ none → verdict_of s ≡ Fine
    → Tallied (all_rows s) (length (module_of s).sensors) (length (module_of s).actuators) (length (module_of s).tasks) (length (module_of s).modes) (ports (module_of s))
rows-tallied s e v =
    let w = whole s e v Tallying (λ q p at next item. tallying s (all_rows s) (last_env s)) nothing_yet in
    let h = rw (last-rows s) at w.holds in
    let p = ports-length (module_of s) in
    retold h refl refl (omega arith) (omega arith) (omega (arith, p))
