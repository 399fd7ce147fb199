-- An update of an accepted text goes to an actuator (document 01, 'The text of a module'), so no reaction writes a sensor, an input or an output by way of one.
use Prim.Native.Nat.{ℕ, zero, suc, ◌+◌, ◌-◌, ◌≤◌, ◌<◌}
use Rattle.std.proofs.Common.{arith, sym, ◌∙◌, ltb-true, ltb-false, eqb-true}
use Rattle.std.specs.Prelude.{◌≡◌, ◌≢◌, Bool, true, false, ltb, eqb, get_or}
use Rattle.std.proofs.Math.Path.{refl}
use Rattle.std.proofs.Math.Option.{none}
use mathlib.Core.List.{List, [], ◌∷◌, ◌++◌, map}
use Rattle.std.proofs.Math.ListN.{length}
use Rattle.codec.proofs.Codecs.{and_left, and_right}
use Rattle.model.specs.Modules.{Module, Mode, Task, Output, Act, Update, each}
use Rattle.text.specs.Items.{syntax_of}
use Rattle.file.specs.References.{task_roles, port_roles, is_source, is_actuator, good_driver}
use Rattle.refusals.specs.Verdicts.{Fine}
use Rattle.refusals.specs.Texts.{verdict_of, module_of}
use Rattle.timing.specs.SlotLaws.{Each}
use Rattle.timing.specs.Rules.{no_mode, task_ports_from}
use Rattle.timing.specs.PortLaws.{ActuatorPort}
use Rattle.timing.specs.PortsAfter.{Aimed}
use Rattle.accepted.specs.Lists.{each_append, each-mapped, each_map, each_at}
use Rattle.accepted.specs.Meanings.{roles_of, types_of}
use Rattle.accepted.specs.Takes.{Updated, Drives, modes-drive}

-- ---- which ports have an actuator's role

first-roles : {A : Type 0} (xs : List A) (role : ℕ) (rest : List ℕ) (i : ℕ) → i < length xs → get_or (map (λ x. role) xs ++ rest) i 0 ≡ role
first-roles [] role rest i h = absurd (omega arith)
first-roles (x ∷ xs) role rest zero h = refl
first-roles (x ∷ xs) role rest (suc i) h = first-roles xs role rest i (omega arith)

later-roles : {A : Type 0} (xs : List A) (role : ℕ) (rest : List ℕ) (i : ℕ) → get_or (map (λ x. role) xs ++ rest) (length xs + i) 0 ≡ get_or rest i 0
later-roles [] role rest i = let e : 0 + i ≡ i = omega arith in rw e refl
later-roles (x ∷ xs) role rest i = let e : suc (length xs) + i ≡ suc (length xs + i) = omega arith in rw e (later-roles xs role rest i)

other-roles : {A : Type 0} (xs : List A) (role : ℕ) → role ≢ 2 → Each (λ r. r ≢ 2) (map (λ x. role) xs)
other-roles [] role n = tt
other-roles (x ∷ xs) role n = (n, other-roles xs role n)

task-roles : (tasks : List Task) → Each (λ r. r ≢ 2) (each task_roles tasks)
task-roles [] = tt
task-roles (t ∷ tasks) =
    each_append (λ r. r ≢ 2) (task_roles t) (each task_roles tasks)
    (each_append (λ r. r ≢ 2) (map (λ (i : ℕ). 3) t.inputs) (map (λ (o : Output). 4) t.outputs) (other-roles t.inputs 3 (λ e. omega arith)) (other-roles t.outputs 4 (λ e. omega arith)))
    (task-roles tasks)

no-role : (list : List ℕ) → Each (λ r. r ≢ 2) list → (i : ℕ) → get_or list i 0 ≢ 2
no-role [] h i e = omega arith
no-role (r ∷ list) h zero e = h.0 e
no-role (r ∷ list) h (suc i) e = no-role list h.1 i e

module _ (M : Module) where
  pub actuator-role : (i : ℕ) → get_or (roles_of M) i 0 ≡ 2 → ActuatorPort M i
  unfolding port_roles
  actuator-role i e = go (ltb i (length M.sensors)) refl (ltb i (length M.sensors + length M.actuators)) refl
    where
      tasks : List ℕ
      tasks = each task_roles M.tasks

      rest : List ℕ
      rest = map (λ a. 2) M.actuators ++ tasks

      go : (y : Bool) → ltb i (length M.sensors) ≡ y → (z : Bool) → ltb i (length M.sensors + length M.actuators) ≡ z → ActuatorPort M i
      go true h z g = let r = first-roles M.sensors 1 rest i (ltb-true _ _ h) in absurd (omega arith)
      go false h true g = record { from = ltb-false i (length M.sensors) h; below = ltb-true i (length M.sensors + length M.actuators) g }
      go false h false g =
          let a : length M.sensors ≤ i = ltb-false i (length M.sensors) h in
          let b : length M.sensors + length M.actuators ≤ i = ltb-false i (length M.sensors + length M.actuators) g in
          let k = i - length M.sensors - length M.actuators in
          let p : i ≡ length M.sensors + (length M.actuators + k) = omega arith in
          let q : get_or (map (λ s. 1) M.sensors ++ rest) (length M.sensors + (length M.actuators + k)) 0 ≡ get_or tasks k 0 =
          later-roles M.sensors 1 rest (length M.actuators + k) ∙ later-roles M.actuators 2 tasks k in
          let e1 : get_or (map (λ s. 1) M.sensors ++ rest) (length M.sensors + (length M.actuators + k)) 0 ≡ 2 = rw p at e in
          absurd (no-role tasks (task-roles M.tasks) k (sym q ∙ e1))

  update-aims : (a : Act Update) → Updated M a → ActuatorPort M a.what.target
  unfolding good_driver
  update-aims a u = actuator-role a.what.target (eqb-true _ _ (and_right (is_source (roles_of M) a.what.source) _ (and_left _ _ u)))

-- Every update of an accepted text aims at an actuator.
pub aimed : (s : List ℕ) → syntax_of s ≡ none → verdict_of s ≡ Fine → Aimed (module_of s)
aimed s e v =
    let M = module_of s in
    record { aims = λ k h. each_map (Updated M) (λ a. ActuatorPort M a.what.target) (update-aims M) (get_or M.modes k no_mode).updates (each_at (Drives M) no_mode M.modes k (modes-drive s e v) h).updated }
