-- All inputs, and all outputs, of a text's tasks are within the room (document 01, 'Room on the board').
use Rattle.std.specs.Prelude.{ℕ, ◌+◌, ◌≤◌, ◌≡◌, Bool, length}
use Rattle.std.proofs.Common.{arith, sym, ap, ◌∙◌, eqb-true}
use Rattle.std.proofs.Math.Path.{refl}
use mathlib.Core.List.{List, [], ◌∷◌, ◌++◌, map}
use Rattle.std.proofs.Math.Bool.{true, false, cond}
use Rattle.std.proofs.Math.Option.{none}
use Rattle.std.proofs.Math.Dec.{eqb}
use Rattle.model.specs.Modules.{Sensor, Actuator, Output, Task, each}
use Rattle.text.specs.Items.{syntax_of}
use Rattle.text.proofs.PartsLaws.{unsaid}
use Rattle.refusals.specs.declared.Row.{Row}
use Rattle.refusals.specs.Verdicts.{Fine}
use Rattle.refusals.specs.Names.{sensor_sort, actuator_sort, input_sort, output_sort, count, is_sort, is_port}
use Rattle.refusals.specs.Texts.{verdict_of, module_of}
use Rattle.accepted.specs.Folds.{all_rows}
use Rattle.accepted.specs.RowsRoom.{rows-room}
use Rattle.accepted.specs.Kinds.{Kind, kind, kind_of, kinds_in}
use Rattle.accepted.specs.PortOrder.{task_kinds, kinds_of, kinds-are}

module _ (sort : ℕ) where
  -- the ports of a sort
  abbrev of_sort : List Kind → ℕ
  of_sort [] = 0
  of_sort (k ∷ kinds) =
      let on = of_sort kinds in
      cond (eqb k.sort sort) (on + 1) on

  of_sort-append : (xs ys : List Kind) → of_sort (xs ++ ys) ≡ of_sort xs + of_sort ys
  of_sort-append [] ys = omega arith
  of_sort-append (k ∷ xs) ys = by (eqb k.sort sort) (of_sort-append xs ys)
    where
      by : (b : Bool) → of_sort (xs ++ ys) ≡ of_sort xs + of_sort ys → cond b (of_sort (xs ++ ys) + 1) (of_sort (xs ++ ys)) ≡ cond b (of_sort xs + 1) (of_sort xs) + of_sort ys
      by true e = omega (arith, e)
      by false e = e

  of_sort-rows : ((row : Row) → row.sort ≡ sort → is_port row ≡ true) → (rows : List Row) → of_sort (kinds_in rows) ≡ count (is_sort sort) rows
  unfolding kinds_in count
  of_sort-rows port [] = refl
  of_sort-rows port (row ∷ rows) = by (is_port row) refl (eqb row.sort sort) refl (of_sort-rows port rows)
    where
      by : (b : Bool) → is_port row ≡ b → (c : Bool) → eqb row.sort sort ≡ c → of_sort (kinds_in rows) ≡ count (is_sort sort) rows → of_sort (cond b (kind_of row ∷ kinds_in rows) (kinds_in rows)) ≡ cond c (count (is_sort sort) rows + 1) (count (is_sort sort) rows)
      by true p true q e = rw q (ap (λ (n : ℕ). n + 1) e)
      by true p false q e = rw q e
      by false p true q e = absurd (unsaid (sym p ∙ port row (eqb-true _ _ q)))
      by false p false q e = e

  of_sort-all : {A : Type 0} (f : A → Kind) → ((a : A) → eqb (f a).sort sort ≡ true) → (xs : List A) → of_sort (map f xs) ≡ length xs
  of_sort-all f h [] = refl
  of_sort-all f h (x ∷ xs) = let e = of_sort-all f h xs in rw (h x) (omega (arith, e))

  of_sort-none : {A : Type 0} (f : A → Kind) → ((a : A) → eqb (f a).sort sort ≡ false) → (xs : List A) → of_sort (map f xs) ≡ 0
  of_sort-none f h [] = refl
  of_sort-none f h (x ∷ xs) = rw (h x) (of_sort-none f h xs)

abbrev pub all_inputs : List Task → ℕ
all_inputs [] = 0
all_inputs (task ∷ tasks) = length task.inputs + all_inputs tasks

abbrev pub all_outputs : List Task → ℕ
all_outputs [] = 0
all_outputs (task ∷ tasks) = length task.outputs + all_outputs tasks

task-inputs : (tasks : List Task) → of_sort input_sort (each task_kinds tasks) ≡ all_inputs tasks
task-inputs [] = refl
task-inputs (task ∷ tasks) =
    let i = map (λ i. kind i input_sort) task.inputs in
    let o = map (λ o. kind o.type output_sort) task.outputs in
    let a = of_sort-append input_sort (i ++ o) (each task_kinds tasks) in
    let b = of_sort-append input_sort i o in
    let c = of_sort-all input_sort (λ (i : ℕ). kind i input_sort) (λ i. refl) task.inputs in
    let d = of_sort-none input_sort (λ (o : Output). kind o.type output_sort) (λ o. refl) task.outputs in
    let e = task-inputs tasks in
    omega (arith, a, b, c, d, e)

task-outputs : (tasks : List Task) → of_sort output_sort (each task_kinds tasks) ≡ all_outputs tasks
task-outputs [] = refl
task-outputs (task ∷ tasks) =
    let i = map (λ i. kind i input_sort) task.inputs in
    let o = map (λ o. kind o.type output_sort) task.outputs in
    let a = of_sort-append output_sort (i ++ o) (each task_kinds tasks) in
    let b = of_sort-append output_sort i o in
    let c = of_sort-none output_sort (λ (i : ℕ). kind i input_sort) (λ i. refl) task.inputs in
    let d = of_sort-all output_sort (λ (o : Output). kind o.type output_sort) (λ o. refl) task.outputs in
    let e = task-outputs tasks in
    omega (arith, a, b, c, d, e)

-- no sensor and no actuator is one
all_of : (sort : ℕ) (sensors : List Sensor) (actuators : List Actuator) (tasks : List Task) → eqb sensor_sort sort ≡ false → eqb actuator_sort sort ≡ false → of_sort sort (kinds_of sensors actuators tasks) ≡ of_sort sort (each task_kinds tasks)
unfolding kinds_of
all_of sort sensors actuators tasks p q =
    let x = map (λ s. kind s.type sensor_sort) sensors in
    let y = map (λ a. kind a.type actuator_sort) actuators in
    let a = of_sort-append sort x (y ++ each task_kinds tasks) in
    let b = of_sort-append sort y (each task_kinds tasks) in
    let c = of_sort-none sort (λ (s : Sensor). kind s.type sensor_sort) (λ s. p) sensors in
    let d = of_sort-none sort (λ (a : Actuator). kind a.type actuator_sort) (λ a. q) actuators in
    omega (arith, a, b, c, d)

pub inputs-in-all : (s : List ℕ) → syntax_of s ≡ none → verdict_of s ≡ Fine → all_inputs (module_of s).tasks ≤ 128
inputs-in-all s e v =
    let M = module_of s in
    let r = of_sort-rows input_sort (λ row q. rw q) (all_rows s) in
    let k = ap (of_sort input_sort) (kinds-are s e v) in
    let a = all_of input_sort M.sensors M.actuators M.tasks refl refl in
    let t = task-inputs M.tasks in
    let l = (rows-room s e v).room input_sort in
    omega (arith, r, k, a, t, l)

pub outputs-in-all : (s : List ℕ) → syntax_of s ≡ none → verdict_of s ≡ Fine → all_outputs (module_of s).tasks ≤ 128
outputs-in-all s e v =
    let M = module_of s in
    let r = of_sort-rows output_sort (λ row q. rw q) (all_rows s) in
    let k = ap (of_sort output_sort) (kinds-are s e v) in
    let a = all_of output_sort M.sensors M.actuators M.tasks refl refl in
    let t = task-outputs M.tasks in
    let l = (rows-room s e v).room output_sort in
    omega (arith, r, k, a, t, l)
