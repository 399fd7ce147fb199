-- Tasks: what is written from their arrays is what their codec writes.
use Prim.Native.Nat.{ℕ, zero, suc, ◌+◌, ◌*◌, ◌≤◌, ◌<◌, min}
use native.Mathlib.Omega.{arith}
use Rattle.std.specs.Prelude.{◌≡◌, true, take}
use Rattle.std.proofs.Math.Path.{refl, sym, ap, ap₂}
use Rattle.std.proofs.Common.{◌∙◌, length-append, take-suc}
use mathlib.Core.List.{List, [], ◌∷◌, ◌++◌, map, append-nil}
use Rattle.std.proofs.Math.ListN.{length, get_or, length-map, get_or-append}
use Rattle.std.proofs.Math.Seq.{get_or-append-add}
use Rattle.codec.specs.Numbers.{be}
use Rattle.model.specs.Rooms.{task_room, port_room}
use Rattle.model.specs.Modules.{Sensor, Actuator, Output, Task, no_task, each, port_types, port_starts, task_types, task_starts, inputs_at}
use Rattle.file.specs.Parts.{count, type}
use Rattle.file.specs.Names.{name}
use Rattle.file.specs.Records.{output, used_with, none_used, task, tasks}
use Rattle.layout.specs.Rows.{padded, rows, names}
use Rattle.layout.specs.Plain.{task_names, output_names}
use Rattle.layout.specs.Filling.{each_both}
use Rattle.layout.specs.Cells.{each-inside}
use Rattle.referring.specs.Drivers.{task_array, task-cell, task-first}
use Rattle.writing.specs.Cells.{byte_of, pair_of, quad_of, cell, name_in, counted, inputs_in, output_in, outputs_in, outputs_before, TaskArrays, task_in, tasks_in}
use Rattle.encoding.specs.Parts.{one-is, pair_is, counted-each, running-put}
use Rattle.encoding.specs.NameLaws.{Narrow, narrow-each, narrow-map, name-most, name-row, first-name, second-name}
use Rattle.encoding.specs.Ports.{count-put, type-is, value-is, map_at}
use Rattle.encoding.specs.Tasks.{no_output, output-ok, output-put, Tasked, task_bytes, task-put, port-cell, types-wide, starts-wide, each-room}

-- the names of the outputs of the first tasks and of the next
outputs-more : (list : List Task) (k : ℕ) → k < length list
    → length (each output_names (take (suc k) list)) ≡ length (each output_names (take k list)) + length (get_or list k no_task).outputs
outputs-more list k h =
    ap (λ (l : List Task). length (each output_names l)) (take-suc list k no_task h)
    ∙ ap length (each_both output_names (take k list) (get_or list k no_task ∷ []))
    ∙ length-append (each output_names (take k list)) _
    ∙ ap (λ (n : ℕ). length (each output_names (take k list)) + n)
    (ap length (append-nil (output_names (get_or list k no_task))) ∙ length-map (get_or list k no_task).outputs (λ (o : Output). o.name))

module _ (room out_room places size : ℕ) (sensing : List Sensor) (acting : List Actuator) (tasking : List Task) (fine : Tasked tasking) where
  abbrev at : ℕ
  at = length sensing + length acting

  abbrev types : List ℕ
  types = padded places (port_types sensing acting tasking)

  abbrev starts : List ℕ
  starts = padded places (port_starts sensing acting tasking)

  abbrev output_rows : List ℕ
  output_rows = names out_room (each output_names tasking)

  -- the arrays of a table with these tasks
  abbrev pub arrays : TaskArrays
  arrays =
      record { names = names room (each task_names tasking); output_names = output_rows; types = types; starts = starts; rows = task_array at size tasking }

  -- ---- where the parts of task k stand

  input-cell : (k j : ℕ) → k < length tasking → j < length (get_or tasking k no_task).inputs → cell types (inputs_at at tasking k + j) ≡ get_or (get_or tasking k no_task).inputs j 0
  unfolding port_types
  input-cell k j h g =
      port-cell task_types types-wide places (map (λ (s : Sensor). s.type) sensing) (map (λ (a : Actuator). a.type) acting) (length sensing) (length acting)
      (length-map sensing (λ (s : Sensor). s.type)) (length-map acting (λ (a : Actuator). a.type)) tasking k j h (omega arith)
      ∙ get_or-append (get_or tasking k no_task).inputs _ 0 j g

  output-type : (k j : ℕ) → k < length tasking → j < length (get_or tasking k no_task).outputs
      → cell types (inputs_at at tasking k + length (get_or tasking k no_task).inputs + j) ≡ (get_or (get_or tasking k no_task).outputs j no_output).type
  unfolding port_types
  output-type k j h g =
      let t = get_or tasking k no_task in
      let place : inputs_at at tasking k + length t.inputs + j ≡ inputs_at at tasking k + (length t.inputs + j) = omega arith in
      ap (cell types) place
      ∙ port-cell task_types types-wide places (map (λ (s : Sensor). s.type) sensing) (map (λ (a : Actuator). a.type) acting) (length sensing) (length acting)
      (length-map sensing (λ (s : Sensor). s.type)) (length-map acting (λ (a : Actuator). a.type)) tasking k (length t.inputs + j) h (omega arith)
      ∙ get_or-append-add t.inputs _ j 0 ∙ map_at (λ (o : Output). o.type) t.outputs no_output 0 j g

  output-start : (k j : ℕ) → k < length tasking → j < length (get_or tasking k no_task).outputs
      → cell starts (inputs_at at tasking k + length (get_or tasking k no_task).inputs + j) ≡ (get_or (get_or tasking k no_task).outputs j no_output).start
  unfolding port_starts
  output-start k j h g =
      let t = get_or tasking k no_task in
      let zeroed : List ℕ = map (λ (i : ℕ). 0) t.inputs in
      let few = length-map {B = ℕ} t.inputs (λ (i : ℕ). 0) in
      let place : inputs_at at tasking k + length t.inputs + j ≡ inputs_at at tasking k + (length zeroed + j) = omega arith in
      ap (cell starts) place
      ∙ port-cell task_starts starts-wide places (map (λ (s : Sensor). 0) sensing) (map (λ (a : Actuator). a.start) acting) (length sensing) (length acting)
      (length-map sensing (λ (s : Sensor). 0)) (length-map acting (λ (a : Actuator). a.start)) tasking k (length zeroed + j) h (omega arith)
      ∙ get_or-append-add zeroed _ j 0 ∙ map_at (λ (o : Output). o.start) t.outputs no_output 0 j g

  outputs-before : (k : ℕ) → k ≤ length tasking → outputs_before (task_array at size tasking) k ≡ length (each output_names (take k tasking))
  unfolding outputs_before
  outputs-before zero h = refl
  outputs-before (suc k) h =
      let few = (fine.stands k (omega arith)).few-outputs in
      let n : cell (task_array at size tasking) (k * 4 + 3) ≡ length (get_or tasking k no_task).outputs = task-cell at size tasking k 3 (omega arith) (omega arith) in
      let e : min (cell (task_array at size tasking) (k * 4 + 3)) 8 ≡ length (get_or tasking k no_task).outputs = omega arith in
      ap₂ (λ (m n : ℕ). m + n) (outputs-before k (omega arith)) e ∙ sym (outputs-more tasking k (omega arith))

  outputs-narrow : Narrow (each output_names tasking)
  outputs-narrow =
      narrow-each output_names no_task tasking (λ k h.
      narrow-map (λ (o : Output). o.name) no_output (get_or tasking k no_task).outputs (λ j g. name-most _ (output-ok _ ((fine.stands k h).given j g)).0))

  output-name : (k j : ℕ) → k < length tasking → j < length (get_or tasking k no_task).outputs
      → name_in output_rows ((length (each output_names (take k tasking)) + j) * 33) ≡ name.put (get_or (get_or tasking k no_task).outputs j no_output).name
  output-name k j h g =
      let t = get_or tasking k no_task in
      let row = length (each output_names (take k tasking)) + j in
      let wide = length-map t.outputs (λ (o : Output). o.name) in
      let whole = each-room output_names no_task tasking k h in
      let p : get_or (each output_names tasking) row [] ≡ (get_or t.outputs j no_output).name =
      each-inside output_names no_task [] tasking k j h (omega arith) ∙ map_at (λ (o : Output). o.name) t.outputs no_output [] j g in
      name-row out_room (each output_names tasking) outputs-narrow row (row * 33) refl (omega arith)
      (ap name.ok p ∙ (output-ok (get_or t.outputs j no_output) ((fine.stands k h).given j g)).0)
      ∙ ap name.put p

  -- ---- task k

  output-is : (k j : ℕ) → k < length tasking → j < length (get_or tasking k no_task).outputs
      → output_in output_rows types starts (length (each output_names (take k tasking))) (inputs_at at tasking k + length (get_or tasking k no_task).inputs) j
      ≡ output.put (get_or (get_or tasking k no_task).outputs j no_output)
  unfolding output_in
  output-is k j h g =
      let o = get_or (get_or tasking k no_task).outputs j no_output in
      let (p, q, r) = output-ok o ((fine.stands k h).given j g) in
      ap₂ (λ (a b : List ℕ). a ++ b) (output-name k j h g)
      (ap₂ (λ (a b : List ℕ). a ++ b) (ap byte_of (output-type k j h g) ∙ type-is o.type q) (ap quad_of (output-start k j h g) ∙ value-is o.type o.start r))
      ∙ sym (output-put o)

  inputs-is : (k : ℕ) → k < length tasking
      → inputs_in types (cell (task_array at size tasking) (k * 4)) (cell (task_array at size tasking) (k * 4 + 1))
      ≡ (be 1).put (length (get_or tasking k no_task).inputs) ++ each type.put (get_or tasking k no_task).inputs
  unfolding inputs_in
  inputs-is k h =
      let t = get_or tasking k no_task in
      let s = fine.stands k h in
      let few = s.few-inputs in
      ap₂ (λ (from many : ℕ). counted byte_of port_room (λ j. byte_of (cell types (from + j))) many) (task-first at size tasking k h) (task-cell at size tasking k 1 h (omega arith))
      ∙ counted-each byte_of port_room (λ j. byte_of (cell types (inputs_at at tasking k + j))) 0 t.inputs few _ type.put (one-is (length t.inputs) (omega arith))
      (λ j g. ap byte_of (input-cell k j h g) ∙ type-is _ (s.typed j g))

  outputs-is : (k : ℕ) → k < length tasking
      → outputs_in output_rows types starts (outputs_before (task_array at size tasking) k) (cell (task_array at size tasking) (k * 4 + 2)) (cell (task_array at size tasking) (k * 4 + 3))
      ≡ (be 1).put (length (get_or tasking k no_task).outputs) ++ each output.put (get_or tasking k no_task).outputs
  unfolding outputs_in
  outputs-is k h =
      let t = get_or tasking k no_task in
      let few = (fine.stands k h).few-outputs in
      let row = length (each output_names (take k tasking)) in
      let first = inputs_at at tasking k + length t.inputs in
      ap (λ (r : ℕ). counted byte_of port_room (output_in output_rows types starts r (cell (task_array at size tasking) (k * 4 + 2))) (cell (task_array at size tasking) (k * 4 + 3))) (outputs-before k (omega arith))
      ∙ ap₂ (λ (from many : ℕ). counted byte_of port_room (output_in output_rows types starts row from) many) (task-cell at size tasking k 2 h (omega arith)) (task-cell at size tasking k 3 h (omega arith))
      ∙ counted-each byte_of port_room (output_in output_rows types starts row first) no_output t.outputs few _ output.put (one-is (length t.outputs) (omega arith)) (λ j g. output-is k j h g)

  task-is : (k : ℕ) → k < length tasking → task_in arrays k ≡ task_bytes (get_or tasking k no_task)
  unfolding task_in
  task-is k h =
      let good : (i : ℕ) → i < length tasking → (name.ok (get_or tasking i no_task).name ≡ true) × (name.ok (get_or tasking i no_task).function ≡ true) =
      λ i g. ((fine.stands i g).named, (fine.stands i g).called) in
      ap₂ (λ (a b : List ℕ). a ++ b) (first-name (λ (t : Task). t.name) (λ (t : Task). t.function) no_task tasking room good k h)
      (ap₂ (λ (a b : List ℕ). a ++ b) (second-name (λ (t : Task). t.name) (λ (t : Task). t.function) no_task tasking room good k h)
      (ap₂ (λ (a b : List ℕ). a ++ b) (inputs-is k h) (outputs-is k h)))

  pub tasks-is : tasks_in arrays (length tasking) ≡ tasks.put tasking
  unfolding tasks_in tasks
  tasks-is =
      let few = fine.few in
      counted-each pair_of task_room (task_in arrays) no_task tasking few _ task_bytes (pair_is (length tasking) (omega arith) ∙ sym (count-put 2 task_room (length tasking))) task-is
      ∙ sym (running-put task used_with (count 2 task_room) none_used task_bytes task-put tasking)
