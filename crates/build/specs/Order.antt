-- Ports in the order of their numbers, and the rows of tasks, with one more at the end.
use Rattle.std.specs.Prelude.{ℕ, ◌+◌, ◌≡◌, List, [], ◌∷◌, ◌++◌, map, length}
use Rattle.std.proofs.Common.{arith, sym, ap, ◌∙◌, append-nil, append_assoc, length-append}
use Rattle.std.proofs.lemmas.List.{map-append, length-map}
use Rattle.model.specs.Modules.{Sensor, Actuator, Output, Task, each, task_types, port_types, task_ports}
use Rattle.layout.specs.Plain.{task_cells, task_rows}
use Rattle.layout.specs.Filling.{each_both}

pub each-one : {A B : Type 0} (f : A → List B) (xs : List A) (x : A) → each f (xs ++ (x ∷ [])) ≡ each f xs ++ f x
each-one f xs x = each_both f xs (x ∷ []) ∙ ap (λ l. each f xs ++ l) (append-nil (f x))

module _ (f : Sensor → ℕ) (g : Actuator → ℕ) (h : Task → List ℕ) (sensors : List Sensor) (actuators : List Actuator) (tasks : List Task) where
  -- a cell for each port: sensors, actuators, then task by task
  abbrev pub in_order : List ℕ
  in_order = map f sensors ++ (map g actuators ++ each h tasks)

module _ (f : Sensor → ℕ) (g : Actuator → ℕ) (h : Task → List ℕ) where
  pub with-sensor : (sensors : List Sensor) (actuators : List Actuator) (tasks : List Task) (x : Sensor) → actuators ≡ [] → tasks ≡ []
      → in_order f g h (sensors ++ (x ∷ [])) actuators tasks ≡ in_order f g h sensors actuators tasks ++ (f x ∷ [])
  with-sensor sensors actuators tasks x a t =
      rw (a, t) (append-nil (map f (sensors ++ (x ∷ []))) ∙ map-append f sensors (x ∷ []) ∙ ap (λ (l : List ℕ). l ++ (f x ∷ [])) (sym (append-nil (map f sensors))))

  pub with-actuator : (sensors : List Sensor) (actuators : List Actuator) (tasks : List Task) (x : Actuator) → tasks ≡ []
      → in_order f g h sensors (actuators ++ (x ∷ [])) tasks ≡ in_order f g h sensors actuators tasks ++ (g x ∷ [])
  with-actuator sensors actuators tasks x t =
      let one = g x ∷ [] in
      rw t (ap (λ (l : List ℕ). map f sensors ++ l) (append-nil (map g (actuators ++ (x ∷ []))) ∙ map-append g actuators (x ∷ []) ∙ ap (λ (l : List ℕ). l ++ one) (sym (append-nil (map g actuators))))
      ∙ sym (append_assoc (map f sensors) (map g actuators ++ []) one))

  pub with-task : (sensors : List Sensor) (actuators : List Actuator) (tasks : List Task) (t : Task)
      → in_order f g h sensors actuators (tasks ++ (t ∷ [])) ≡ in_order f g h sensors actuators tasks ++ h t
  with-task sensors actuators tasks t =
      let a = map f sensors in
      let b = map g actuators in
      ap (λ (l : List ℕ). a ++ (b ++ l)) (each-one h tasks t) ∙ ap (λ (l : List ℕ). a ++ l) (sym (append_assoc b (each h tasks) (h t))) ∙ sym (append_assoc a (b ++ each h tasks) (h t))

-- ---- of a task: inputs, then outputs

pub with-input : (front inputs inputs' outputs : List ℕ) (cell : ℕ) → inputs' ≡ inputs ++ (cell ∷ []) → outputs ≡ [] → (front ++ (inputs ++ outputs)) ++ (cell ∷ []) ≡ front ++ (inputs' ++ outputs)
with-input front inputs inputs' outputs cell e z =
    rw (e, z) (append_assoc front (inputs ++ []) (cell ∷ []) ∙ ap (λ (l : List ℕ). front ++ l) (ap (λ (l : List ℕ). l ++ (cell ∷ [])) (append-nil inputs) ∙ sym (append-nil (inputs ++ (cell ∷ [])))))

pub with-output : (front inputs outputs outputs' : List ℕ) (cell : ℕ) → outputs' ≡ outputs ++ (cell ∷ []) → (front ++ (inputs ++ outputs)) ++ (cell ∷ []) ≡ front ++ (inputs ++ outputs')
with-output front inputs outputs outputs' cell e = rw e (append_assoc front (inputs ++ outputs) (cell ∷ []) ∙ ap (λ (l : List ℕ). front ++ l) (append_assoc inputs outputs (cell ∷ [])))

-- ---- rows of tasks

pub task-rows-more : (at : ℕ) (tasks : List Task) (t : Task) → task_rows at (tasks ++ (t ∷ [])) ≡ task_rows at tasks ++ (task_cells (at + length (each task_types tasks)) t ∷ [])
unfolding task_rows
task-rows-more at [] t = let e : at ≡ at + 0 = omega arith in ap (λ (n : ℕ). task_cells n t ∷ []) e
task-rows-more at (x ∷ tasks) t =
    let l = length-append (task_types x) (each task_types tasks) in
    let m = length-append x.inputs (map (λ (o : Output). o.type) x.outputs) in
    let o : length (map (λ (o : Output). o.type) x.outputs) ≡ length x.outputs = length-map x.outputs (λ (o : Output). o.type) in
    let e : at + task_ports x + length (each task_types tasks) ≡ at + length (each task_types (x ∷ tasks)) = omega (arith, l, m, o) in
    ap (λ (r : List (List ℕ)). task_cells at x ∷ r) (task-rows-more (at + task_ports x) tasks t ∙ ap (λ (n : ℕ). task_rows (at + task_ports x) tasks ++ (task_cells n t ∷ [])) e)

pub ports-first : (sensors : List Sensor) (actuators : List Actuator) (tasks : List Task) → length (port_types sensors actuators tasks) ≡ length sensors + length actuators + length (each task_types tasks)
unfolding port_types
ports-first sensors actuators tasks =
    let a = length-append (map (λ (s : Sensor). s.type) sensors) (map (λ (a : Actuator). a.type) actuators ++ each task_types tasks) in
    let b = length-append (map (λ (a : Actuator). a.type) actuators) (each task_types tasks) in
    let c : length (map (λ (s : Sensor). s.type) sensors) ≡ length sensors = length-map sensors (λ (s : Sensor). s.type) in
    let d : length (map (λ (a : Actuator). a.type) actuators) ≡ length actuators = length-map actuators (λ (a : Actuator). a.type) in
    omega (arith, a, b, c, d)
