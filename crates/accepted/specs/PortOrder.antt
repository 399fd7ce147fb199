-- The ports of the module are those that its rows declare: sensors, actuators, then task by task inputs and outputs.
use Rattle.std.specs.Prelude.{ℕ, ◌≤◌, ◌≡◌, refl, List, [], ◌∷◌, ◌++◌, map, false, get_or}
use Rattle.std.proofs.Common.{arith, sym, ap, ◌∙◌, append-nil, append_assoc}
use Rattle.std.proofs.lemmas.List.{map-append}
use Rattle.std.proofs.Math.Option.{none}
use Rattle.model.specs.Modules.{Module, Sensor, Actuator, Output, Task, each, task_types, port_types}
use Rattle.file.specs.References.{task_roles, port_roles}
use Rattle.text.specs.declared.State.{State}
use Rattle.text.specs.declared.State.TheVariants as Q
use Rattle.text.specs.declared.Item.{Item}
use Rattle.text.specs.Items.{syntax_of}
use Rattle.refusals.specs.declared.Row.{Row}
use Rattle.refusals.specs.Verdicts.{Fine}
use Rattle.refusals.specs.Checks.{first}
use Rattle.refusals.specs.Names.{letters, sensor_sort, actuator_sort, input_sort, output_sort}
use Rattle.refusals.specs.Values.{type_named, literal_word}
use Rattle.refusals.specs.Draft.{Draft, with_function}
use Rattle.refusals.specs.Rules.{Env, grow, rules}
use Rattle.refusals.specs.Texts.{verdict_of, module_of}
use Rattle.accepted.specs.Steps.{plain, guarded, Comes, module-begins, module-section, constant, sensor, actuator, task-begins, task-section, input, output, task-ends, mode-begins, mode-section, activity, guard-alone, guard, guard-arg, guard-last, invoke-alone, invoke, arg, arg-last, update, switch, mode-ends, module-ends, text-ends}
use Rattle.accepted.specs.Folds.{Reaches, whole, all_rows, last_env, last-rows}
use Rattle.accepted.specs.Kinds.{Kind, kind, kinds_in, kinds-port, kinds-other}

abbrev pub task_kinds : Task → List Kind
task_kinds task = map (λ i. kind i input_sort) task.inputs ++ map (λ o. kind o.type output_sort) task.outputs

unfoldable pub kinds_of : List Sensor → List Actuator → List Task → List Kind
kinds_of sensors actuators tasks = map (λ s. kind s.type sensor_sort) sensors ++ (map (λ a. kind a.type actuator_sort) actuators ++ each task_kinds tasks)

each_append : {A B : Type 0} (f : A → List B) (xs ys : List A) → each f (xs ++ ys) ≡ each f xs ++ each f ys
each_append f [] ys = refl
each_append f (x ∷ xs) ys = ap (λ (l : List _). f x ++ l) (each_append f xs ys) ∙ sym (append_assoc (f x) (each f xs) (each f ys))

kinds-tasks : (sensors : List Sensor) (actuators : List Actuator) (tasks more : List Task) → kinds_of sensors actuators (tasks ++ more) ≡ kinds_of sensors actuators tasks ++ each task_kinds more
unfolding kinds_of
kinds-tasks sensors actuators tasks more =
    let a = map (λ s. kind s.type sensor_sort) sensors in
    let b = map (λ a. kind a.type actuator_sort) actuators in
    ap (λ (l : List Kind). a ++ (b ++ l)) (each_append task_kinds tasks more)
    ∙ ap (λ (l : List Kind). a ++ l) (sym (append_assoc b (each task_kinds tasks) (each task_kinds more)))
    ∙ sym (append_assoc a (b ++ each task_kinds tasks) (each task_kinds more))

kinds-sensor : (sensors : List Sensor) (new : Sensor) → kinds_of (sensors ++ (new ∷ [])) [] [] ≡ kinds_of sensors [] [] ++ (kind new.type sensor_sort ∷ [])
unfolding kinds_of
kinds-sensor sensors new =
    let f : Sensor → Kind = λ s. kind s.type sensor_sort in
    append-nil (map f (sensors ++ (new ∷ []))) ∙ map-append f sensors (new ∷ []) ∙ ap (λ (l : List Kind). l ++ (kind new.type sensor_sort ∷ [])) (sym (append-nil (map f sensors)))

kinds-actuator : (sensors : List Sensor) (actuators : List Actuator) (new : Actuator) → kinds_of sensors (actuators ++ (new ∷ [])) [] ≡ kinds_of sensors actuators [] ++ (kind new.type actuator_sort ∷ [])
unfolding kinds_of
kinds-actuator sensors actuators new =
    let f : Actuator → Kind = λ a. kind a.type actuator_sort in
    let a = map (λ s. kind s.type sensor_sort) sensors in
    let one = kind new.type actuator_sort ∷ [] in
    ap (λ (l : List Kind). a ++ l) (append-nil (map f (actuators ++ (new ∷ []))) ∙ map-append f actuators (new ∷ []) ∙ ap (λ (l : List Kind). l ++ one) (sym (append-nil (map f actuators))))
    ∙ sym (append_assoc a (map f actuators ++ []) one)

kinds-input : (task : Task) (type : ℕ) → task.outputs ≡ [] → map (λ i. kind i input_sort) (task.inputs ++ (type ∷ [])) ++ map (λ o. kind o.type output_sort) task.outputs ≡ task_kinds task ++ (kind type input_sort ∷ [])
kinds-input task type e =
    let f : ℕ → Kind = λ i. kind i input_sort in
    rw e (append-nil (map f (task.inputs ++ (type ∷ []))) ∙ map-append f task.inputs (type ∷ []) ∙ ap (λ (l : List Kind). l ++ (kind type input_sort ∷ [])) (sym (append-nil (map f task.inputs))))

kinds-output : (task : Task) (new : Output) → map (λ i. kind i input_sort) task.inputs ++ map (λ o. kind o.type output_sort) (task.outputs ++ (new ∷ [])) ≡ task_kinds task ++ (kind new.type output_sort ∷ [])
kinds-output task new =
    let a = map (λ i. kind i input_sort) task.inputs in
    let f : Output → Kind = λ o. kind o.type output_sort in
    ap (λ (l : List Kind). a ++ l) (map-append f task.outputs (new ∷ [])) ∙ sym (append_assoc a (map f task.outputs) (kind new.type output_sort ∷ []))

-- ---- by state: what the sections' order leaves

abbrev kinds_built : Draft → List Kind
kinds_built draft = kinds_of draft.built.sensors draft.built.actuators draft.built.tasks

pub record InModule (k : ℕ) (rows : List Row) (draft : Draft) : Type 0 where
  pub are : kinds_in rows ≡ kinds_built draft
  pub no-actuators : k ≤ 3 → draft.built.actuators ≡ []
  pub no-tasks : k ≤ 4 → draft.built.tasks ≡ []

pub record InTask (k : ℕ) (rows : List Row) (draft : Draft) : Type 0 where
  pub are : kinds_in rows ≡ kinds_built draft ++ task_kinds draft.task
  pub no-outputs : k ≤ 2 → draft.task.outputs ≡ []

pub record InMode (rows : List Row) (draft : Draft) : Type 0 where
  pub are : kinds_in rows ≡ kinds_built draft

abbrev Ordering : State → ℕ → Env → Type 0
Ordering Q.Begin at env = InModule 1 env.rows env.draft
Ordering (Q.Module k) at env = InModule k env.rows env.draft
Ordering (Q.Task k) at env = InTask k env.rows env.draft
Ordering (Q.Mode k) at env = InMode env.rows env.draft
Ordering (Q.Act k) at env = InMode env.rows env.draft
Ordering (Q.Guarded k) at env = InMode env.rows env.draft
Ordering (Q.GuardArgs k) at env = InMode env.rows env.draft
Ordering Q.Args at env = InMode env.rows env.draft
Ordering Q.Finish at env = InMode env.rows env.draft

no_more : (rows : List Row) → kinds_in (rows ++ []) ≡ kinds_in rows
no_more rows = ap kinds_in (append-nil rows)

module _ (s : List ℕ) (all : List Row) (last : Env) where
  ordering : {q p : State} {at next : ℕ} {item : Item} (env : Env) → Comes s q at item p next → first (rules s all env item) ≡ Fine → Reaches s all last (grow s all env item) → Ordering q at env → Ordering p next (grow s all env item)
  ordering env (module-begins name) v r h = record { are = no_more env.rows ∙ h.are; no-actuators = h.no-actuators; no-tasks = h.no-tasks }
  ordering env (module-section k w l b) v r h = record { are = no_more env.rows ∙ h.are; no-actuators = λ n. h.no-actuators (omega (arith, l, n)); no-tasks = λ n. h.no-tasks (omega (arith, l, n)) }
  ordering env (constant name value) v r h = record { are = kinds-other env.rows _ refl ∙ h.are; no-actuators = h.no-actuators; no-tasks = h.no-tasks }
  ordering env (sensor typ name getter) v r h =
      let a = h.no-actuators (omega arith) in
      let t = h.no-tasks (omega arith) in
      let e : kinds_in env.rows ≡ kinds_of env.draft.built.sensors [] [] = rw (a, t) at h.are in
      let new : Sensor = record { name = letters s name; type = type_named s typ; getter = letters s getter } in
      record {
        are = kinds-port env.rows _ refl ∙ ap (λ (l : List Kind). l ++ (kind (type_named s typ) sensor_sort ∷ [])) e ∙ rw (a, t) (sym (kinds-sensor env.draft.built.sensors new));
        no-actuators = h.no-actuators;
        no-tasks = h.no-tasks;
      }
  ordering env (actuator typ name value setter) v r h =
      let t = h.no-tasks (omega arith) in
      let e : kinds_in env.rows ≡ kinds_of env.draft.built.sensors env.draft.built.actuators [] = rw t at h.are in
      let new : Actuator = record { name = letters s name; type = type_named s typ; start = literal_word s env.rows value; setter = letters s setter } in
      record {
        are = kinds-port env.rows _ refl ∙ ap (λ (l : List Kind). l ++ (kind (type_named s typ) actuator_sort ∷ [])) e ∙ rw t (sym (kinds-actuator env.draft.built.sensors env.draft.built.actuators new));
        no-actuators = λ n. absurd (omega (arith, n));
        no-tasks = h.no-tasks;
      }
  ordering env (task-begins k name l) v r h = record { are = kinds-other env.rows _ refl ∙ h.are ∙ sym (append-nil (kinds_built env.draft)); no-outputs = λ n. refl }
  ordering env (task-section k w l) v r h = record { are = no_more env.rows ∙ h.are; no-outputs = λ n. h.no-outputs (omega (arith, l, n)) }
  ordering env (input typ name) v r h =
      let built = kinds_built env.draft in
      let one = kind (type_named s typ) input_sort ∷ [] in
      let e = kinds-input env.draft.task (type_named s typ) (h.no-outputs (omega arith)) in
      record {
        are = kinds-port env.rows _ refl ∙ ap (λ (l : List Kind). l ++ one) h.are ∙ append_assoc built (task_kinds env.draft.task) one ∙ ap (λ (l : List Kind). built ++ l) (sym e);
        no-outputs = h.no-outputs;
      }
  ordering env (output typ name value) v r h =
      let built = kinds_built env.draft in
      let one = kind (type_named s typ) output_sort ∷ [] in
      let e = kinds-output env.draft.task (record { name = letters s name; type = type_named s typ; start = literal_word s env.rows value }) in
      record {
        are = kinds-port env.rows _ refl ∙ ap (λ (l : List Kind). l ++ one) h.are ∙ append_assoc built (task_kinds env.draft.task) one ∙ ap (λ (l : List Kind). built ++ l) (sym e);
        no-outputs = λ n. absurd (omega (arith, n));
      }
  ordering env (task-ends k name) v r h =
      let task = with_function env.draft.task (letters s name) in
      let built = kinds_built env.draft in
      let e = kinds-tasks env.draft.built.sensors env.draft.built.actuators env.draft.built.tasks (task ∷ []) in
      record {
        are = no_more env.rows ∙ h.are ∙ ap (λ (l : List Kind). built ++ l) (sym (append-nil (task_kinds task))) ∙ sym e;
        no-actuators = λ n. absurd (omega (arith, n));
        no-tasks = λ n. absurd (omega (arith, n));
      }
  ordering env (mode-begins k start begin name digits milli l) v r h = record { are = kinds-other env.rows _ refl ∙ h.are }
  ordering env (mode-section k w l b) v r h = record { are = no_more env.rows ∙ h.are }
  ordering env (activity k begin digits l) v r h = record { are = no_more env.rows ∙ h.are }
  ordering env (guard-alone k name) v r h = record { are = no_more env.rows ∙ h.are }
  ordering env (guard k name many c) v r h = record { are = no_more env.rows ∙ h.are }
  ordering env (guard-arg k port c) v r h = record { are = no_more env.rows ∙ h.are }
  ordering env (guard-last k port c) v r h = record { are = no_more env.rows ∙ h.are }
  ordering env (invoke-alone name plain) v r h = record { are = no_more env.rows ∙ h.are }
  ordering env (invoke-alone name guarded) v r h = record { are = no_more env.rows ∙ h.are }
  ordering env (invoke name many plain c) v r h = record { are = no_more env.rows ∙ h.are }
  ordering env (invoke name many guarded c) v r h = record { are = no_more env.rows ∙ h.are }
  ordering env (arg port c) v r h = record { are = no_more env.rows ∙ h.are }
  ordering env (arg-last port c) v r h = record { are = no_more env.rows ∙ h.are }
  ordering env (update name source plain) v r h = record { are = no_more env.rows ∙ h.are }
  ordering env (update name source guarded) v r h = record { are = no_more env.rows ∙ h.are }
  ordering env (switch k name plain a b) v r h = record { are = no_more env.rows ∙ h.are }
  ordering env (switch k name guarded a b) v r h = record { are = no_more env.rows ∙ h.are }
  ordering env (mode-ends k) v r h = record { are = no_more env.rows ∙ h.are; no-actuators = λ n. absurd (omega (arith, n)); no-tasks = λ n. absurd (omega (arith, n)) }
  ordering env (module-ends k) v r h = record { are = no_more env.rows ∙ h.are }
  ordering env text-ends v r h = record { are = no_more env.rows ∙ h.are }

nothing_placed : InModule 1 [] (record { built = record { name = []; sensors = []; actuators = []; tasks = []; guards = []; modes = [] }; task = record { name = []; function = []; inputs = []; outputs = [] }; mode = record { name = []; start = false; period = 0; calls = []; updates = []; switches = [] }; doing = record { frequency = 0; function = none; operands = []; wanted = [] }; started = false })
unfolding kinds_of kinds_in
nothing_placed = record { are = refl; no-actuators = λ n. refl; no-tasks = λ n. refl }

pub kinds-are : (s : List ℕ) → syntax_of s ≡ none → verdict_of s ≡ Fine → kinds_in (all_rows s) ≡ kinds_of (module_of s).sensors (module_of s).actuators (module_of s).tasks
kinds-are s e v =
    let w = whole s e v Ordering (λ q p at next item. ordering s (all_rows s) (last_env s)) nothing_placed in
    rw (last-rows s) at w.holds.are

-- ---- so the types and the roles by number

abbrev pub role_of : ℕ → ℕ
role_of sort = get_or (0 ∷ 1 ∷ 2 ∷ 0 ∷ 0 ∷ 3 ∷ 4 ∷ []) sort 0

map-map : {A : Type 0} (g : Kind → ℕ) (f : A → Kind) (xs : List A) → map g (map f xs) ≡ map (λ x. g (f x)) xs
map-map g f [] = refl
map-map g f (x ∷ xs) = ap (λ (l : List ℕ). g (f x) ∷ l) (map-map g f xs)

map_same : (xs : List ℕ) → map (λ x. x) xs ≡ xs
map_same [] = refl
map_same (x ∷ xs) = ap (λ (l : List ℕ). x ∷ l) (map_same xs)

map_each : {A : Type 0} (g : Kind → ℕ) (f : A → List Kind) (h : A → List ℕ) → ((x : A) → map g (f x) ≡ h x) → (xs : List A) → map g (each f xs) ≡ each h xs
map_each g f h e [] = refl
map_each g f h e (x ∷ xs) = map-append g (f x) (each f xs) ∙ (λ i. e x i ++ map_each g f h e xs i)

pub types_are : (sensors : List Sensor) (actuators : List Actuator) (tasks : List Task) → map (λ k. k.typ) (kinds_of sensors actuators tasks) ≡ port_types sensors actuators tasks
unfolding kinds_of port_types
types_are sensors actuators tasks =
    let g : Kind → ℕ = λ k. k.typ in
    let t : (task : Task) → map g (task_kinds task) ≡ task_types task = λ task. map-append g (map (λ i. kind i input_sort) task.inputs) (map (λ o. kind o.type output_sort) task.outputs) ∙ (λ i. (map-map g (λ i. kind i input_sort) task.inputs ∙ map_same task.inputs) i ++ map-map g (λ (o : Output). kind o.type output_sort) task.outputs i) in
    map-append g (map (λ s. kind s.type sensor_sort) sensors) (map (λ a. kind a.type actuator_sort) actuators ++ each task_kinds tasks)
    ∙ (λ i. map-map g (λ (s : Sensor). kind s.type sensor_sort) sensors i ++ (map-append g (map (λ a. kind a.type actuator_sort) actuators) (each task_kinds tasks) ∙ (λ j. map-map g (λ (a : Actuator). kind a.type actuator_sort) actuators j ++ map_each g task_kinds task_types t tasks j)) i)

pub roles-are : (sensors : List Sensor) (actuators : List Actuator) (tasks : List Task) → map (λ k. role_of k.sort) (kinds_of sensors actuators tasks) ≡ port_roles sensors actuators tasks
unfolding kinds_of port_roles
roles-are sensors actuators tasks =
    let g : Kind → ℕ = λ k. role_of k.sort in
    let t : (task : Task) → map g (task_kinds task) ≡ task_roles task = λ task. map-append g (map (λ i. kind i input_sort) task.inputs) (map (λ o. kind o.type output_sort) task.outputs) ∙ (λ i. map-map g (λ i. kind i input_sort) task.inputs i ++ map-map g (λ (o : Output). kind o.type output_sort) task.outputs i) in
    map-append g (map (λ s. kind s.type sensor_sort) sensors) (map (λ a. kind a.type actuator_sort) actuators ++ each task_kinds tasks)
    ∙ (λ i. map-map g (λ (s : Sensor). kind s.type sensor_sort) sensors i ++ (map-append g (map (λ a. kind a.type actuator_sort) actuators) (each task_kinds tasks) ∙ (λ j. map-map g (λ (a : Actuator). kind a.type actuator_sort) actuators j ++ map_each g task_kinds task_roles t tasks j)) i)
