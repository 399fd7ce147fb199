-- The laws of ports: words put and copied into them, and where sensors, actuators and each task's inputs and outputs stand.
use Rattle.std.specs.Prelude.{ℕ, zero, suc, ◌+◌, ◌≤◌, ◌<◌, ◌≡◌, refl, ◌≢◌, ◌⊎◌, Bool, true, false, List, [], ◌∷◌, ◌++◌, map, length, get_or, set, ltb}
use native.Mathlib.Omega.{arith}
use Rattle.std.proofs.Common.{◌∙◌, ap, inl, inr, length-set, get_or-set_same, get_or-set_other, ltb-true, ltb-false}
use Rattle.std.proofs.Math.ListN.{length-append}
use Rattle.model.specs.Modules.{Module, Sensor, Actuator, Task, no_task, task_ports, task_types, task_starts, each, port_types, port_starts, inputs_at, place, copy_to}
use Rattle.timing.specs.Rules.{task_ports_from, inputs_of, outputs_of}
use Rattle.timing.specs.Accepted.{ports}

-- ---- words put, and sources copied, from a place on

pub place-length : (at : ℕ) (words l : List ℕ) → length (place at words l) ≡ length l
place-length at [] l = refl
place-length at (word ∷ words) l = place-length (at + 1) words (set l at word) ∙ length-set l at word

pub place-below : (at i : ℕ) (words l : List ℕ) → i < at → get_or (place at words l) i 0 ≡ get_or l i 0
place-below at i [] l h = refl
place-below at i (word ∷ words) l h = place-below (at + 1) i words (set l at word) (omega arith) ∙ get_or-set_other l at i word 0 (λ e. omega arith)

pub place-above : (at i : ℕ) (words l : List ℕ) → at + length words ≤ i → get_or (place at words l) i 0 ≡ get_or l i 0
place-above at i [] l h = refl
place-above at i (word ∷ words) l h = place-above (at + 1) i words (set l at word) (omega arith) ∙ get_or-set_other l at i word 0 (λ e. omega arith)

pub place_inside : (at n : ℕ) (words l : List ℕ) → n < length words → at + n < length l → get_or (place at words l) (at + n) 0 ≡ get_or words n 0
place_inside at n [] l h k = absurd (omega arith)
place_inside at zero (word ∷ words) l h k =
    let e : at + 0 ≡ at = omega arith in
    rw e (place-below (at + 1) at words (set l at word) (omega arith) ∙ get_or-set_same l at word 0 (omega arith))
place_inside at (suc n) (word ∷ words) l h k =
    let e : at + suc n ≡ at + 1 + n = omega arith in
    let long : length (set l at word) ≡ length l = length-set l at word in
    rw e (place_inside (at + 1) n words (set l at word) (omega arith) (omega arith))

pub copy-length : (at : ℕ) (sources l : List ℕ) → length (copy_to at sources l) ≡ length l
copy-length at [] l = refl
copy-length at (source ∷ sources) l = copy-length (at + 1) sources (set l at (get_or l source 0)) ∙ length-set l at (get_or l source 0)

pub copy-below : (at i : ℕ) (sources l : List ℕ) → i < at → get_or (copy_to at sources l) i 0 ≡ get_or l i 0
copy-below at i [] l h = refl
copy-below at i (source ∷ sources) l h = copy-below (at + 1) i sources (set l at (get_or l source 0)) (omega arith) ∙ get_or-set_other l at i (get_or l source 0) 0 (λ e. omega arith)

pub copy-above : (at i : ℕ) (sources l : List ℕ) → at + length sources ≤ i → get_or (copy_to at sources l) i 0 ≡ get_or l i 0
copy-above at i [] l h = refl
copy-above at i (source ∷ sources) l h = copy-above (at + 1) i sources (set l at (get_or l source 0)) (omega arith) ∙ get_or-set_other l at i (get_or l source 0) 0 (λ e. omega arith)

-- ---- where they stand

pub mapped : {A B : Type 0} (f : A → B) (l : List A) → length (map f l) ≡ length l
mapped f [] = refl
mapped f (a ∷ l) = ap suc (mapped f l)

-- a task's ports stand from the first one on
inputs-low : (at : ℕ) (tasks : List Task) (k : ℕ) → at ≤ inputs_at at tasks k
inputs-low at [] k = omega arith
inputs-low at (t ∷ tasks) zero = omega arith
inputs-low at (t ∷ tasks) (suc k) = let h = inputs-low (at + task_ports t) tasks k in omega arith

-- behind all ports of an earlier task
inputs-behind : (at : ℕ) (tasks : List Task) (j k : ℕ) → j < k → inputs_at at tasks j + task_ports (get_or tasks j no_task) ≤ inputs_at at tasks k
inputs-behind at [] j k h = omega arith
inputs-behind at (t ∷ tasks) zero zero h = absurd (omega arith)
inputs-behind at (t ∷ tasks) zero (suc k) h = inputs-low (at + task_ports t) tasks k
inputs-behind at (t ∷ tasks) (suc j) zero h = absurd (omega arith)
inputs-behind at (t ∷ tasks) (suc j) (suc k) h = inputs-behind (at + task_ports t) tasks j k (omega arith)

-- and within all ports
types_long : (task : Task) → length (task_types task) ≡ task_ports task
types_long task = length-append task.inputs (map (λ o. o.type) task.outputs) ∙ ap (λ (n : ℕ). length task.inputs + n) (mapped (λ o. o.type) task.outputs)

starts-long : (task : Task) → length (task_starts task) ≡ task_ports task
starts-long task =
    length-append (map (λ i. 0) task.inputs) (map (λ o. o.start) task.outputs) ∙ ap (λ (n : ℕ). n + length (map (λ o. o.start) task.outputs)) (mapped (λ (i : ℕ). 0) task.inputs)
    ∙ ap (λ (n : ℕ). length task.inputs + n) (mapped (λ o. o.start) task.outputs)

inputs-within : (at : ℕ) (tasks : List Task) (k : ℕ) → inputs_at at tasks k + task_ports (get_or tasks k no_task) ≤ at + length (each task_types tasks)
inputs-within at [] k = omega arith
inputs-within at (t ∷ tasks) zero = let a = length-append (task_types t) (each task_types tasks) in let b = types_long t in omega arith
inputs-within at (t ∷ tasks) (suc k) = let a = length-append (task_types t) (each task_types tasks) in let b = types_long t in let h = inputs-within (at + task_ports t) tasks k in omega arith

-- as many words as types
starts-types : (tasks : List Task) → length (each task_starts tasks) ≡ length (each task_types tasks)
starts-types [] = refl
starts-types (t ∷ tasks) =
    let a = length-append (task_starts t) (each task_starts tasks) in
    let b = length-append (task_types t) (each task_types tasks) in
    let c = starts-long t in
    let d = types_long t in
    let h = starts-types tasks in
    omega arith

pub beginning-long : (sensors : List Sensor) (actuators : List Actuator) (tasks : List Task) → length (port_starts sensors actuators tasks) ≡ length (port_types sensors actuators tasks)
unfolding port_starts port_types
beginning-long sensors actuators tasks =
    let a = length-append (map (λ (s : Sensor). 0) sensors) (map (λ a. a.start) actuators ++ each task_starts tasks) in
    let b = length-append (map (λ a. a.start) actuators) (each task_starts tasks) in
    let c = length-append (map (λ s. s.type) sensors) (map (λ a. a.type) actuators ++ each task_types tasks) in
    let d = length-append (map (λ a. a.type) actuators) (each task_types tasks) in
    let e = mapped {B = ℕ} (λ (s : Sensor). 0) sensors in
    let f = mapped (λ a. a.start) actuators in
    let g = mapped (λ s. s.type) sensors in
    let h = mapped (λ a. a.type) actuators in
    let i = starts-types tasks in
    omega arith

module _ (M : Module) where
  abbrev pub input_count : ℕ → ℕ
  input_count k = length (get_or M.tasks k no_task).inputs

  abbrev pub output_count : ℕ → ℕ
  output_count k = length (get_or M.tasks k no_task).outputs

  -- port i is a sensor's; an actuator's; an input of task k; an output of task k
  abbrev pub SensorPort : ℕ → Type 0
  SensorPort i = i < length M.sensors

  pub record ActuatorPort (i : ℕ) : Type 0 where
    pub from : length M.sensors ≤ i
    pub below : i < task_ports_from M

  pub record InputPort (k i : ℕ) : Type 0 where
    pub from : inputs_of M k ≤ i
    pub below : i < inputs_of M k + input_count k

  pub record OutputPort (k i : ℕ) : Type 0 where
    pub from : outputs_of M k ≤ i
    pub below : i < outputs_of M k + output_count k

  pub task-ports-low : (k : ℕ) → task_ports_from M ≤ inputs_of M k
  task-ports-low k = inputs-low (task_ports_from M) M.tasks k

  pub task-ports-within : (k : ℕ) → outputs_of M k + output_count k ≤ ports M
  unfolding port_types
  task-ports-within k =
      let a = inputs-within (task_ports_from M) M.tasks k in
      let b = length-append (map (λ s. s.type) M.sensors) (map (λ a. a.type) M.actuators ++ each task_types M.tasks) in
      let c = length-append (map (λ a. a.type) M.actuators) (each task_types M.tasks) in
      let d = mapped (λ s. s.type) M.sensors in
      let e = mapped (λ a. a.type) M.actuators in
      omega arith

  -- a port of task k stands behind or before all ports of another task
  pub apart : (j k : ℕ) → j ≢ k → (i : ℕ) → inputs_of M k ≤ i → i < outputs_of M k + output_count k → (outputs_of M j + output_count j ≤ i) ⊎ (i < inputs_of M j)
  apart j k ne i a b = go (ltb j k) refl
    where
      go : (y : Bool) → ltb j k ≡ y → (outputs_of M j + output_count j ≤ i) ⊎ (i < inputs_of M j)
      go true e = let h = inputs-behind (task_ports_from M) M.tasks j k (ltb-true j k e) in inl (omega arith)
      go false e = let h = inputs-behind (task_ports_from M) M.tasks k j (let l = ltb-false j k e in omega arith) in inr (omega arith)
