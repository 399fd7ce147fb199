-- Tasks, with their inputs and outputs.
use Rattle.std.specs.Prelude.{ℕ, zero, suc, ◌+◌, ◌≤◌, ◌<◌, ◌≡◌, refl, true, List, [], ◌∷◌, ◌++◌, map, length, get_or, take}
use Rattle.std.proofs.Common.{add-zero, arith, sym, ap, ap₂, ◌∙◌, length-append, leb-true}
use Rattle.std.proofs.lemmas.List.{length-map}
use Rattle.codec.specs.Codecs.{Codec}
use Rattle.codec.proofs.Codecs.{and_left, and_right}
use Rattle.codec.specs.Numbers.{be}
use Rattle.codec.specs.Sequences.{dep, dep_put}
use Rattle.codec.proofs.Sequences.{dep-ok}
use Rattle.codec.specs.Views.{check, shape, view, view_put}
use Rattle.codec.proofs.Views.{check-ok, shape-ok}
use Rattle.codec.specs.Lists.{list, run_ok}
use Rattle.codec.proofs.Lists.{list-ok, running-ok}
use Rattle.model.specs.Rooms.{task_room, port_room}
use Rattle.model.specs.Modules.{Output, Task, no_task, each, task_types, task_starts, task_ports, inputs_at}
use Rattle.file.specs.Parts.{count, type, value}
use Rattle.file.specs.Names.{name}
use Rattle.file.specs.Records.{output, Used, used_with, none_used, port_count, task, tasks}
use Rattle.layout.specs.Rows.{padded}
use Rattle.layout.specs.Cells.{each-inside, many-ok-at}
use Rattle.writing.specs.Puts.{parts}
use Rattle.writing.specs.Cells.{cell}
use Rattle.encoding.specs.Parts.{list_put}
use Rattle.encoding.specs.Ports.{at-third}

-- ---- what a task that can stand in a file has

-- what stands where no output is
abbrev pub no_output : Output
no_output = record { name = []; type = 0; start = 0 }

pub output-ok : (o : Output) → output.ok o ≡ true → (name.ok o.name ≡ true) × (type.ok o.type ≡ true) × ((value o.type).ok o.start ≡ true)
unfolding output
output-ok o h =
    let (p, r) = dep-ok _ _ _ o.name (o.type, o.start) (shape-ok _ _ _ o h) in
    let (q, s) = dep-ok _ _ _ o.type o.start r in
    (p, q, s)

pub output-put : (o : Output) → output.put o ≡ name.put o.name ++ (type.put o.type ++ (value o.type).put o.start)
unfolding output shape view view_put dep dep_put
output-put o = refl

-- a task's parts, each of which can stand in a file
pub record Stands (t : Task) : Type 0 where
  pub named : name.ok t.name ≡ true
  pub called : name.ok t.function ≡ true
  pub few-inputs : length t.inputs ≤ port_room
  pub typed : (k : ℕ) → k < length t.inputs → type.ok (get_or t.inputs k 0) ≡ true
  pub few-outputs : length t.outputs ≤ port_room
  pub given : (k : ℕ) → k < length t.outputs → output.ok (get_or t.outputs k no_output) ≡ true

task-stands : (used : Used) (t : Task) → (task used).ok t ≡ true → Stands t
unfolding task port_count
task-stands used t h =
    let (p, r) = dep-ok _ _ _ t.name (t.function, (t.inputs, t.outputs)) (shape-ok _ _ _ t h) in
    let (q, s) = dep-ok _ _ _ t.function (t.inputs, t.outputs) r in
    let (u, v) = dep-ok _ _ _ t.inputs t.outputs s in
    let (a, b) = list-ok _ _ t.inputs u in
    let (c, d) = list-ok _ _ t.outputs v in
    record {
      named = p;
      called = q;
      few-inputs = leb-true (length t.inputs) port_room (and_left _ _ (check-ok _ _ _ _ a).0);
      typed = many-ok-at type t.inputs 0 b;
      few-outputs = leb-true (length t.outputs) port_room (and_left _ _ (check-ok _ _ _ _ c).0);
      given = many-ok-at output t.outputs no_output d;
    }

run-stands : (used : Used) (list : List Task) → run_ok task used_with used list ≡ true → (k : ℕ) → k < length list → Stands (get_or list k no_task)
run-stands used [] h k g = absurd (omega arith)
run-stands used (t ∷ list) h zero g = task-stands used t (and_left _ _ h)
run-stands used (t ∷ list) h (suc k) g = run-stands (used_with used t) list (and_right ((task used).ok t) _ h) k (omega arith)

-- as many tasks as there is room for, each one that can stand in a file
pub record Tasked (list : List Task) : Type 0 where
  pub few : length list ≤ task_room
  pub stands : (k : ℕ) → k < length list → Stands (get_or list k no_task)

pub tasks-stand : (list : List Task) → tasks.ok list ≡ true → Tasked list
unfolding tasks count
tasks-stand list h =
    let (a, b) = running-ok _ _ _ _ list h in
    record { few = leb-true (length list) task_room (check-ok _ _ _ _ a).0; stands = run-stands none_used list b }

-- ---- what the codec of a task writes

port_count-put : (used n : ℕ) → (port_count used).put n ≡ (be 1).put n
unfolding port_count check view view_put
port_count-put used n = refl

-- name, function, inputs as count and types, outputs as count and name, type, value
abbrev pub task_bytes : Task → List ℕ
task_bytes t =
    name.put t.name ++ (name.put t.function
    ++ (((be 1).put (length t.inputs) ++ each type.put t.inputs) ++ ((be 1).put (length t.outputs) ++ each output.put t.outputs)))

task-parts : (used : Used) (t : Task)
    → (task used).put t
    ≡ name.put t.name ++ (name.put t.function ++ ((list (port_count used.inputs) type).put t.inputs ++ (list (port_count used.outputs) output).put t.outputs))
unfolding task shape view view_put dep dep_put
task-parts used t = refl

ports-put : {A : Type 0} (used : ℕ) (c : Codec A) (xs : List A) → (list (port_count used) c).put xs ≡ (be 1).put (length xs) ++ each c.put xs
ports-put used c xs = list_put (port_count used) c xs ∙ ap (λ (l : List ℕ). l ++ each c.put xs) (port_count-put used (length xs))

pub task-put : (used : Used) (t : Task) → (task used).put t ≡ task_bytes t
task-put used t =
    task-parts used t
    ∙ ap₂ (λ (a b : List ℕ). name.put t.name ++ (name.put t.function ++ (a ++ b))) (ports-put used.inputs type t.inputs) (ports-put used.outputs output t.outputs)

-- ---- the ports of task k

module _ (f : Task → List ℕ) (wide : (t : Task) → length (f t) ≡ task_ports t) where
  ports-at : (at : ℕ) (list : List Task) (k : ℕ) → k < length list → inputs_at at list k ≡ at + length (each f (take k list))
  ports-at at [] k within = absurd (omega arith)
  ports-at at (t ∷ list) zero within = sym (add-zero at)
  ports-at at (t ∷ list) (suc k) within =
      ports-at (at + task_ports t) list k (omega arith) ∙ omega (arith, wide t, length-append (f t) (each f (take k list)))

  pub port-cell : (places : ℕ) (a b : List ℕ) (n m : ℕ) → length a ≡ n → length b ≡ m → (list : List Task) (k j : ℕ) → k < length list → j < task_ports (get_or list k no_task)
      → cell (padded places (a ++ (b ++ each f list))) (inputs_at (n + m) list k + j) ≡ get_or (f (get_or list k no_task)) j 0
  port-cell places a b n m p q list k j within less =
      let before = length (each f (take k list)) in
      let place : inputs_at (n + m) list k + j ≡ n + m + (before + j) = omega (arith, ports-at (n + m) list k within) in
      ap (cell (padded places (a ++ (b ++ each f list)))) place ∙ at-third places a b (each f list) n m (before + j) p q
      ∙ each-inside f no_task 0 list k j within (omega (arith, wide (get_or list k no_task)))

pub types-wide : (t : Task) → length (task_types t) ≡ task_ports t
types-wide t = length-append t.inputs _ ∙ ap (λ (n : ℕ). length t.inputs + n) (length-map t.outputs (λ (o : Output). o.type))

pub starts-wide : (t : Task) → length (task_starts t) ≡ task_ports t
starts-wide t =
    length-append (map (λ (i : ℕ). 0) t.inputs) _
    ∙ ap₂ (λ (m n : ℕ). m + n) (length-map t.inputs (λ (i : ℕ). 0)) (length-map t.outputs (λ (o : Output). o.start))

-- the part of element k is no longer than the whole
pub each-room : {A B : Type 0} (f : A → List B) (d : A) (xs : List A) (k : ℕ) → k < length xs → length (each f (take k xs)) + length (f (get_or xs k d)) ≤ length (each f xs)
each-room f d [] k h = absurd (omega arith)
each-room f d (x ∷ xs) zero h = omega (arith, length-append (f x) (each f xs))
each-room f d (x ∷ xs) (suc k) h =
    omega (arith, length-append (f x) (each f xs), length-append (f x) (each f (take k xs)), each-room f d xs k (omega arith))
