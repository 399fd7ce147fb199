-- The declarations of an accepted text are within the rooms (document 01, 'Room on the board').
use Rattle.std.specs.Prelude.{ℕ, ◌+◌, ◌*◌, ◌≤◌, ◌<◌, ◌≡◌, refl, List, [], ◌∷◌, ◌++◌, map, length}
use Rattle.std.proofs.Common.{arith, length-append}
use Rattle.std.proofs.Math.Option.{none}
use Rattle.std.proofs.lemmas.List.{length-map}
use Rattle.model.specs.Modules.{Sensor, Actuator, Output, Task, each, task_starts, port_starts}
use Rattle.timing.specs.SlotLaws.{Each}
use Rattle.layout.specs.Plain.{sensor_names, actuator_names, task_names, output_names}
use Rattle.layout.specs.Cells.{length-task-rows}
use Rattle.text.specs.Items.{syntax_of}
use Rattle.refusals.specs.Verdicts.{Fine}
use Rattle.refusals.specs.Texts.{verdict_of, module_of}
use Rattle.accepted.specs.Lists.{each_append, each_map, each-mapped}
use Rattle.accepted.specs.NamesFit.{SensorNames, ActuatorNames, TaskNames, OutputNames, names-fit}
use Rattle.accepted.specs.TypesFit.{ActuatorFits, OutputFits, TaskFits, parts-fit}
use Rattle.accepted.specs.PortTotals.{all_outputs, outputs-in-all}
use Rattle.accepted.specs.Accepts.{accepted}
use Rattle.ports.specs.Laid.{Within, Laid}
use Rattle.build.specs.Sections.{Tells}

pub each_all : {A B : Type 0} (C : A → Type 0) (D : B → Type 0) (f : A → List B) → ((a : A) → C a → Each D (f a)) → (xs : List A) → Each C xs → Each D (each f xs)
each_all C D f g [] h = tt
each_all C D f g (x ∷ xs) h = each_append D (f x) (each f xs) (g x h.0) (each_all C D f g xs h.1)

pub twos : {A : Type 0} (f : A → List (List ℕ)) → ((a : A) → length (f a) ≡ 2) → (xs : List A) → length (each f xs) ≡ 2 * length xs
twos f h [] = refl
twos f h (x ∷ xs) = let e = twos f h xs in let l = length-append (f x) (each f xs) in let k = h x in omega (arith, e, l, k)

outputs-counted : (tasks : List Task) → length (each output_names tasks) ≡ all_outputs tasks
outputs-counted [] = refl
outputs-counted (t ∷ tasks) =
    let e = outputs-counted tasks in
    let l = length-append (output_names t) (each output_names tasks) in
    let m : length (map (λ (o : Output). o.name) t.outputs) ≡ length t.outputs = length-map t.outputs (λ (o : Output). o.name) in
    omega (arith, e, l, m)

abbrev Short : List ℕ → Type 0
Short name = length name ≤ 32

abbrev Small : ℕ → Type 0
Small word = word < 4294967296

zeros-small : {A : Type 0} (xs : List A) → Each Small (map (λ x. 0) xs)
zeros-small [] = tt
zeros-small (x ∷ xs) = (omega arith, zeros-small xs)

task-starts-small : (t : Task) → TaskFits t → Each Small (task_starts t)
task-starts-small t f =
    each_append Small (map (λ i. 0) t.inputs) (map (λ o. o.start) t.outputs) (zeros-small t.inputs)
    (each-mapped Small (λ (o : Output). o.start) t.outputs (each_map OutputFits (λ o. Small o.start) (λ o w. w.word) t.outputs f.outputs-fit))

starts-small : (sensors : List Sensor) (actuators : List Actuator) (tasks : List Task) → Each ActuatorFits actuators → Each TaskFits tasks → Each Small (port_starts sensors actuators tasks)
unfolding port_starts
starts-small sensors actuators tasks a t =
    each_append Small (map (λ s. 0) sensors) (map (λ a. a.start) actuators ++ each task_starts tasks) (zeros-small sensors)
    (each_append Small (map (λ a. a.start) actuators) (each task_starts tasks)
    (each-mapped Small (λ (x : Actuator). x.start) actuators (each_map ActuatorFits (λ x. Small x.start) (λ x w. w.word) actuators a))
    (each_all TaskFits Small task_starts task-starts-small tasks t))

module _ (s : List ℕ) (e : syntax_of s ≡ none) (v : verdict_of s ≡ Fine) (l : Laid) (titled : l.words.modules ≡ (module_of s).name ∷ []) (told : Tells l (module_of s).sensors (module_of s).actuators (module_of s).tasks) where
  pub declared-within : Within l
  declared-within =
      let M = module_of s in
      let W = accepted s e v in
      let n = names-fit s e v in
      let p = parts-fit s e v in
      let a = W.few-sensors in
      let b = W.few-actuators in
      let c = W.few-tasks in
      let d = W.few-ports in
      let o = outputs-in-all s e v in
      let x = twos sensor_names (λ k. refl) M.sensors in
      let y = twos actuator_names (λ k. refl) M.actuators in
      let z = twos task_names (λ k. refl) M.tasks in
      let u = outputs-counted M.tasks in
      let r = length-task-rows (length M.sensors + length M.actuators) M.tasks in
      record {
        title = rw titled (record { short = (n.module-name.short, tt); few = omega arith });
        sensors = rw told.sensor-words (record { short = each_all SensorNames Short sensor_names (λ k w. (w.0.short, (w.1.short, tt))) M.sensors n.sensors-named; few = omega (arith, x, a) });
        actuators = rw told.actuator-words (record { short = each_all ActuatorNames Short actuator_names (λ k w. (w.0.short, (w.1.short, tt))) M.actuators n.actuators-named; few = omega (arith, y, b) });
        tasks = rw told.task-words (record { short = each_all TaskNames Short task_names (λ k w. (w.0.short, (w.1.short, tt))) M.tasks n.tasks-named; few = omega (arith, z, c) });
        outputs = rw told.output-words (record { short = each_all TaskNames Short output_names (λ k w. each-mapped Short (λ (q : Output). q.name) k.outputs (each_map OutputNames (λ q. Short q.name) (λ q f. f.short) k.outputs w.2)) M.tasks n.tasks-named; few = omega (arith, u, o) });
        ports = rw told.types (omega (arith, d));
        starts = rw told.starts (starts-small M.sensors M.actuators M.tasks p.actuators-fit p.tasks-fit);
        rows = rw told.rows (omega (arith, r, c));
      }
