-- What the items of a text declare one after the other is what its module holds, since its sections come in order.
use Rattle.std.specs.Prelude.{ℕ, ◌+◌, ◌≤◌, ◌≡◌}
use Rattle.std.proofs.Common.{arith, ◌∙◌}
use Rattle.std.proofs.Math.Path.{refl, sym, ap}
use mathlib.Core.List.{List, [], ◌∷◌, ◌++◌, map, map-append, append-nil, append_assoc}
use Rattle.std.proofs.Math.ListN.{length, length-append}
use Rattle.model.specs.Modules.{Sensor, Actuator, Output, Task, each, task_types, port_types, task_starts, port_starts}
use Rattle.file.specs.References.{task_roles, port_roles}
use Rattle.layout.specs.Plain.{sensor_names, actuator_names, task_names, output_names, task_cells, task_rows}
use Rattle.text.specs.declared.State.{State}
use Rattle.text.specs.declared.State.TheVariants as Q
use Rattle.text.specs.declared.Item.{Item}
use Rattle.text.specs.declared.Item.TheVariants as I
use Rattle.text.specs.declared.Name.{Name}
use Rattle.text.specs.declared.Literal.{Literal}
use Rattle.refusals.specs.declared.Row.{Row}
use Rattle.refusals.specs.Names.{letters}
use Rattle.refusals.specs.Values.{type_named, literal_word}
use Rattle.refusals.specs.Draft.{Draft, drafted, with_function}
use Rattle.accepted.specs.Steps.{plain, guarded, Comes, module-begins, module-section, constant, sensor, actuator, task-begins, task-section, input, output, task-ends, mode-begins, mode-section, activity, guard-alone, guard, guard-arg, guard-last, invoke-alone, invoke, arg, arg-last, update, switch, mode-ends, module-ends, text-ends}
use Rattle.ports.specs.Laid.{Laid, laid, words_of, laid_by, under_cells}
use Rattle.build.specs.Order.{each-one, with-sensor, with-actuator, with-task, with-input, with-output, task-rows-more, ports-first}

-- names, ports and rows of sensors, actuators and tasks
pub record Tells (l : Laid) (sensors : List Sensor) (actuators : List Actuator) (tasks : List Task) : Type 0 where
  pub sensor-words : l.words.sensors ≡ each sensor_names sensors
  pub actuator-words : l.words.actuators ≡ each actuator_names actuators
  pub task-words : l.words.tasks ≡ each task_names tasks
  pub output-words : l.words.outputs ≡ each output_names tasks
  pub roles : l.lanes.roles ≡ port_roles sensors actuators tasks
  pub types : l.lanes.types ≡ port_types sensors actuators tasks
  pub starts : l.lanes.starts ≡ port_starts sensors actuators tasks
  pub rows : l.rows ≡ task_rows (length sensors + length actuators) tasks

-- the same with a task under way
pub record TellsTask (l : Laid) (sensors : List Sensor) (actuators : List Actuator) (tasks : List Task) (t : Task) : Type 0 where
  pub sensor-words : l.words.sensors ≡ each sensor_names sensors
  pub actuator-words : l.words.actuators ≡ each actuator_names actuators
  pub task-words : l.words.tasks ≡ each task_names tasks ++ (t.name ∷ [])
  pub output-words : l.words.outputs ≡ each output_names tasks ++ output_names t
  pub roles : l.lanes.roles ≡ port_roles sensors actuators tasks ++ task_roles t
  pub types : l.lanes.types ≡ port_types sensors actuators tasks ++ task_types t
  pub starts : l.lanes.starts ≡ port_starts sensors actuators tasks ++ task_starts t
  pub rows : l.rows ≡ task_rows (length sensors + length actuators) tasks
  pub first : l.under.first ≡ length (port_types sensors actuators tasks)
  pub inputs : l.under.inputs ≡ length t.inputs
  pub outputs : l.under.outputs ≡ length t.outputs

-- ---- by state: what the sections' order leaves

-- in section k of the module: no actuator before section 4, no task before section 5
pub record InModule (k : ℕ) (l : Laid) (draft : Draft) : Type 0 where
  pub tells : Tells l draft.built.sensors draft.built.actuators draft.built.tasks
  pub no-actuators : k ≤ 3 → draft.built.actuators ≡ []
  pub no-tasks : k ≤ 4 → draft.built.tasks ≡ []

-- in section k of a task: no output before section 3
pub record InTask (k : ℕ) (l : Laid) (draft : Draft) : Type 0 where
  pub tells : TellsTask l draft.built.sensors draft.built.actuators draft.built.tasks draft.task
  pub no-outputs : k ≤ 2 → draft.task.outputs ≡ []

abbrev Titled : Laid → Draft → Type 0
Titled l draft = l.words.modules ≡ draft.built.name ∷ []

-- behind the declarations
abbrev pub InMode : Laid → Draft → Type 0
InMode l draft = Titled l draft × Tells l draft.built.sensors draft.built.actuators draft.built.tasks

-- what is declared so far, by the state of the reading
abbrev pub Ordering : State → Laid → Draft → Type 0
Ordering Q.Begin l draft = (l.words.modules ≡ []) × InModule 1 l draft
Ordering (Q.Module k) l draft = Titled l draft × InModule k l draft
Ordering (Q.Task k) l draft = Titled l draft × InTask k l draft
Ordering (Q.Mode k) l draft = InMode l draft
Ordering (Q.Act k) l draft = InMode l draft
Ordering (Q.Guarded k) l draft = InMode l draft
Ordering (Q.GuardArgs k) l draft = InMode l draft
Ordering Q.Args l draft = InMode l draft
Ordering Q.Finish l draft = InMode l draft

two-names : (words : List (List ℕ)) (a b : List ℕ) → (words ++ (a ∷ [])) ++ (b ∷ []) ≡ words ++ (a ∷ b ∷ [])
two-names words a b = append_assoc words (a ∷ []) (b ∷ [])

also-words : (words old : List (List ℕ)) (a b : List ℕ) → words ≡ old → (words ++ (a ∷ [])) ++ (b ∷ []) ≡ old ++ (a ∷ b ∷ [])
also-words words old a b e = rw e (two-names old a b)

one_cell : (lane old after : List ℕ) (cell : ℕ) → lane ≡ old → after ≡ old ++ (cell ∷ []) → lane ++ (cell ∷ []) ≡ after
one_cell lane old after cell e f = rw e (sym f)

module _ (s : List ℕ) (all rows : List Row) where
  sensor-told : (l : Laid) (sensors : List Sensor) (actuators : List Actuator) (tasks : List Task) (typ name getter : Name) → actuators ≡ [] → tasks ≡ [] → Tells l sensors actuators tasks
      → Tells (laid_by s rows (I.Sensor typ name getter) l) (sensors ++ (record { name = letters s name; type = type_named s typ; getter = letters s getter } ∷ [])) actuators tasks
  unfolding laid_by port_roles port_types port_starts task_rows
  sensor-told l sensors actuators tasks typ name getter a t h =
      let new : Sensor = record { name = letters s name; type = type_named s typ; getter = letters s getter } in
      record {
        sensor-words = also-words l.words.sensors _ (letters s name) (letters s getter) h.sensor-words ∙ sym (each-one sensor_names sensors new);
        actuator-words = h.actuator-words;
        task-words = h.task-words;
        output-words = h.output-words;
        roles = one_cell _ _ _ 1 h.roles (with-sensor (λ x. 1) (λ x. 2) task_roles sensors actuators tasks new a t);
        types = one_cell _ _ _ (type_named s typ) h.types (with-sensor (λ x. x.type) (λ x. x.type) task_types sensors actuators tasks new a t);
        starts = one_cell _ _ _ 0 h.starts (with-sensor (λ x. 0) (λ x. x.start) task_starts sensors actuators tasks new a t);
        rows = h.rows ∙ rw t refl;
      }

  actuator-told : (l : Laid) (sensors : List Sensor) (actuators : List Actuator) (tasks : List Task) (typ name : Name) (value : Literal) (setter : Name) → tasks ≡ [] → Tells l sensors actuators tasks
      → Tells (laid_by s rows (I.Actuator typ name value setter) l) sensors (actuators ++ (record { name = letters s name; type = type_named s typ; start = literal_word s rows value; setter = letters s setter } ∷ [])) tasks
  unfolding laid_by port_roles port_types port_starts task_rows
  actuator-told l sensors actuators tasks typ name value setter t h =
      let new : Actuator = record { name = letters s name; type = type_named s typ; start = literal_word s rows value; setter = letters s setter } in
      record {
        sensor-words = h.sensor-words;
        actuator-words = also-words l.words.actuators _ (letters s name) (letters s setter) h.actuator-words ∙ sym (each-one actuator_names actuators new);
        task-words = h.task-words;
        output-words = h.output-words;
        roles = one_cell _ _ _ 2 h.roles (with-actuator (λ x. 1) (λ x. 2) task_roles sensors actuators tasks new t);
        types = one_cell _ _ _ (type_named s typ) h.types (with-actuator (λ x. x.type) (λ x. x.type) task_types sensors actuators tasks new t);
        starts = one_cell _ _ _ (literal_word s rows value) h.starts (with-actuator (λ x. 0) (λ x. x.start) task_starts sensors actuators tasks new t);
        rows = h.rows ∙ rw t refl;
      }

  begin-told : (l : Laid) (sensors : List Sensor) (actuators : List Actuator) (tasks : List Task) (name : Name) → Tells l sensors actuators tasks
      → TellsTask (laid_by s rows (I.TaskBegin name) l) sensors actuators tasks (record { name = letters s name; function = []; inputs = []; outputs = [] })
  unfolding laid_by
  begin-told l sensors actuators tasks name h =
      record {
        sensor-words = h.sensor-words;
        actuator-words = h.actuator-words;
        task-words = ap (λ (w : List (List ℕ)). w ++ (letters s name ∷ [])) h.task-words;
        output-words = h.output-words ∙ sym (append-nil (each output_names tasks));
        roles = h.roles ∙ sym (append-nil _);
        types = h.types ∙ sym (append-nil _);
        starts = h.starts ∙ sym (append-nil _);
        rows = h.rows;
        first = ap (λ (w : List ℕ). length w) h.types;
        inputs = refl;
        outputs = refl;
      }

  input-told : (l : Laid) (sensors : List Sensor) (actuators : List Actuator) (tasks : List Task) (t : Task) (typ name : Name) → t.outputs ≡ [] → TellsTask l sensors actuators tasks t
      → TellsTask (laid_by s rows (I.Input typ name) l) sensors actuators tasks (record { name = t.name; function = t.function; inputs = t.inputs ++ (type_named s typ ∷ []); outputs = t.outputs })
  unfolding laid_by
  input-told l sensors actuators tasks t typ name e h =
      let n = length-append t.inputs (type_named s typ ∷ []) in
      let i = h.inputs in
      record {
        sensor-words = h.sensor-words;
        actuator-words = h.actuator-words;
        task-words = h.task-words;
        output-words = h.output-words;
        roles = ap (λ (w : List ℕ). w ++ (3 ∷ [])) h.roles ∙ with-input (port_roles sensors actuators tasks) (map (λ i. 3) t.inputs) (map (λ i. 3) (t.inputs ++ (type_named s typ ∷ []))) (map (λ (o : Output). 4) t.outputs) 3 (map-append (λ i. 3) t.inputs (type_named s typ ∷ [])) (ap (λ (o : List Output). map (λ x. 4) o) e);
        types = ap (λ (w : List ℕ). w ++ (type_named s typ ∷ [])) h.types ∙ with-input (port_types sensors actuators tasks) t.inputs (t.inputs ++ (type_named s typ ∷ [])) (map (λ (o : Output). o.type) t.outputs) (type_named s typ) refl (ap (λ (o : List Output). map (λ x. x.type) o) e);
        starts = ap (λ (w : List ℕ). w ++ (0 ∷ [])) h.starts ∙ with-input (port_starts sensors actuators tasks) (map (λ i. 0) t.inputs) (map (λ i. 0) (t.inputs ++ (type_named s typ ∷ []))) (map (λ (o : Output). o.start) t.outputs) 0 (map-append (λ i. 0) t.inputs (type_named s typ ∷ [])) (ap (λ (o : List Output). map (λ x. x.start) o) e);
        rows = h.rows;
        first = h.first;
        inputs = omega (arith, n, i);
        outputs = h.outputs;
      }

  output-told : (l : Laid) (sensors : List Sensor) (actuators : List Actuator) (tasks : List Task) (t : Task) (typ name : Name) (value : Literal) → TellsTask l sensors actuators tasks t
      → TellsTask (laid_by s rows (I.Output typ name value) l) sensors actuators tasks
      (record { name = t.name; function = t.function; inputs = t.inputs; outputs = t.outputs ++ (record { name = letters s name; type = type_named s typ; start = literal_word s rows value } ∷ []) })
  unfolding laid_by
  output-told l sensors actuators tasks t typ name value h =
      let new : Output = record { name = letters s name; type = type_named s typ; start = literal_word s rows value } in
      let n = length-append t.outputs (new ∷ []) in
      let o = h.outputs in
      record {
        sensor-words = h.sensor-words;
        actuator-words = h.actuator-words;
        task-words = h.task-words;
        output-words = ap (λ (w : List (List ℕ)). w ++ (letters s name ∷ [])) h.output-words ∙ append_assoc (each output_names tasks) (output_names t) (letters s name ∷ []) ∙ ap (λ (w : List (List ℕ)). each output_names tasks ++ w) (sym (map-append (λ (x : Output). x.name) t.outputs (new ∷ [])));
        roles = ap (λ (w : List ℕ). w ++ (4 ∷ [])) h.roles ∙ with-output (port_roles sensors actuators tasks) (map (λ i. 3) t.inputs) (map (λ (x : Output). 4) t.outputs) (map (λ (x : Output). 4) (t.outputs ++ (new ∷ []))) 4 (map-append (λ (x : Output). 4) t.outputs (new ∷ []));
        types = ap (λ (w : List ℕ). w ++ (type_named s typ ∷ [])) h.types ∙ with-output (port_types sensors actuators tasks) t.inputs (map (λ (x : Output). x.type) t.outputs) (map (λ (x : Output). x.type) (t.outputs ++ (new ∷ []))) (type_named s typ) (map-append (λ (x : Output). x.type) t.outputs (new ∷ []));
        starts = ap (λ (w : List ℕ). w ++ (literal_word s rows value ∷ [])) h.starts ∙ with-output (port_starts sensors actuators tasks) (map (λ i. 0) t.inputs) (map (λ (x : Output). x.start) t.outputs) (map (λ (x : Output). x.start) (t.outputs ++ (new ∷ []))) (literal_word s rows value) (map-append (λ (x : Output). x.start) t.outputs (new ∷ []));
        rows = h.rows;
        first = h.first;
        inputs = h.inputs;
        outputs = omega (arith, n, o);
      }

  end-told : (l : Laid) (sensors : List Sensor) (actuators : List Actuator) (tasks : List Task) (t : Task) (function : Name) → TellsTask l sensors actuators tasks t
      → Tells (laid_by s rows (I.TaskEnd function) l) sensors actuators (tasks ++ (with_function t (letters s function) ∷ []))
  unfolding laid_by port_roles port_types port_starts
  end-told l sensors actuators tasks t function h =
      let done = with_function t (letters s function) in
      let first : l.under.first ≡ length sensors + length actuators + length (each task_types tasks) = h.first ∙ ports-first sensors actuators tasks in
      let cells : under_cells l.under ≡ task_cells (length sensors + length actuators + length (each task_types tasks)) done = rw (first, h.inputs, h.outputs) refl in
      record {
        sensor-words = h.sensor-words;
        actuator-words = h.actuator-words;
        task-words = ap (λ (w : List (List ℕ)). w ++ (letters s function ∷ [])) h.task-words ∙ two-names (each task_names tasks) t.name (letters s function) ∙ sym (each-one task_names tasks done);
        output-words = h.output-words ∙ sym (each-one output_names tasks done);
        roles = h.roles ∙ sym (with-task (λ x. 1) (λ x. 2) task_roles sensors actuators tasks done);
        types = h.types ∙ sym (with-task (λ x. x.type) (λ x. x.type) task_types sensors actuators tasks done);
        starts = h.starts ∙ sym (with-task (λ x. 0) (λ x. x.start) task_starts sensors actuators tasks done);
        rows = rw (h.rows, cells) (sym (task-rows-more (length sensors + length actuators) tasks done));
      }

-- ---- each item

-- the module's name aside
module _ {l : Laid} {modules : List (List ℕ)} {sensors : List Sensor} {actuators : List Actuator} {tasks : List Task} where
  untitled : Tells l sensors actuators tasks
      → Tells (laid (words_of modules l.words.sensors l.words.actuators l.words.tasks l.words.outputs) l.lanes l.rows l.under) sensors actuators tasks
  untitled h = record { sensor-words = h.sensor-words; actuator-words = h.actuator-words; task-words = h.task-words; output-words = h.output-words; roles = h.roles; types = h.types; starts = h.starts; rows = h.rows }

module _ (s : List ℕ) (all rows : List Row) where
  pub ordered : {q p : State} {at next : ℕ} {item : Item} (l : Laid) (draft : Draft) → Comes s q at item p next → Ordering q l draft → Ordering p (laid_by s rows item l) (drafted s all rows draft item)
  unfolding laid_by
  ordered l draft (module-begins name) h = (ap (λ (w : List (List ℕ)). w ++ (letters s name ∷ [])) h.0, record { tells = untitled h.1.tells; no-actuators = h.1.no-actuators; no-tasks = h.1.no-tasks })
  ordered l draft (module-section k w below b) h = (h.0, record { tells = h.1.tells; no-actuators = λ n. h.1.no-actuators (omega (arith, below, n)); no-tasks = λ n. h.1.no-tasks (omega (arith, below, n)) })
  ordered l draft (constant name value) h = h
  ordered l draft (sensor typ name getter) h = (h.0, record { tells = sensor-told s all rows l _ _ _ typ name getter (h.1.no-actuators (omega arith)) (h.1.no-tasks (omega arith)) h.1.tells; no-actuators = h.1.no-actuators; no-tasks = h.1.no-tasks })
  ordered l draft (actuator typ name value setter) h = (h.0, record { tells = actuator-told s all rows l _ _ _ typ name value setter (h.1.no-tasks (omega arith)) h.1.tells; no-actuators = λ n. absurd (omega (arith, n)); no-tasks = h.1.no-tasks })
  ordered l draft (task-begins k name below) h = (h.0, record { tells = begin-told s all rows l _ _ _ name h.1.tells; no-outputs = λ n. refl })
  ordered l draft (task-section k w below) h = (h.0, record { tells = h.1.tells; no-outputs = λ n. h.1.no-outputs (omega (arith, below, n)) })
  ordered l draft (input typ name) h = (h.0, record { tells = input-told s all rows l _ _ _ _ typ name (h.1.no-outputs (omega arith)) h.1.tells; no-outputs = h.1.no-outputs })
  ordered l draft (output typ name value) h = (h.0, record { tells = output-told s all rows l _ _ _ _ typ name value h.1.tells; no-outputs = λ n. absurd (omega (arith, n)) })
  ordered l draft (task-ends k name) h = (h.0, record { tells = end-told s all rows l _ _ _ _ name h.1.tells; no-actuators = λ n. absurd (omega (arith, n)); no-tasks = λ n. absurd (omega (arith, n)) })
  ordered l draft (mode-begins k start begin name digits milli below) h = (h.0, h.1.tells)
  ordered l draft (mode-section k w below b) h = h
  ordered l draft (activity k begin digits below) h = h
  ordered l draft (guard-alone k name) h = h
  ordered l draft (guard k name many c) h = h
  ordered l draft (guard-arg k port c) h = h
  ordered l draft (guard-last k port c) h = h
  ordered l draft (invoke-alone name plain) h = h
  ordered l draft (invoke-alone name guarded) h = h
  ordered l draft (invoke name many plain c) h = h
  ordered l draft (invoke name many guarded c) h = h
  ordered l draft (arg port c) h = h
  ordered l draft (arg-last port c) h = h
  ordered l draft (update name source plain) h = h
  ordered l draft (update name source guarded) h = h
  ordered l draft (switch k name plain a b) h = h
  ordered l draft (switch k name guarded a b) h = h
  ordered l draft (mode-ends k) h = (h.0, record { tells = h.1; no-actuators = λ n. absurd (omega (arith, n)); no-tasks = λ n. absurd (omega (arith, n)) })
  ordered l draft (module-ends k) h = (h.0, h.1.tells)
  ordered l draft text-ends h = h
