-- The names of an accepted text that its file holds: 1 to 32 bytes, a name's form, no keyword.
use Rattle.std.specs.Prelude.{ℕ, ◌-◌, ◌≤◌, ◌<◌, ◌≡◌, refl, List, [], ◌∷◌, true, length}
use Rattle.std.proofs.Common.{arith, ltb-false}
use Rattle.std.proofs.Math.Option.{none, some}
use Rattle.std.proofs.Math.Seq.{length-slice}
use Rattle.model.specs.Rooms.{name_room}
use Rattle.model.specs.Modules.{Sensor, Actuator, Output, Task, Mode}
use Rattle.file.specs.Names.{good_name}
use Rattle.text.specs.declared.Name.{Name}
use Rattle.text.specs.declared.State.{State}
use Rattle.text.specs.declared.State.TheVariants as Q
use Rattle.text.specs.declared.Item.{Item}
use Rattle.text.specs.Items.{syntax_of}
use Rattle.timing.specs.SlotLaws.{Each}
use Rattle.refusals.specs.declared.Row.{Row}
use Rattle.refusals.specs.Verdicts.{Fine}
use Rattle.refusals.specs.Checks.{Check, first}
use Rattle.refusals.specs.ChecksLaws.{fine-parts, fine-one}
use Rattle.refusals.specs.Names.{letters, sensor_sort, actuator_sort, task_sort, mode_sort, output_sort}
use Rattle.refusals.specs.Refusals.{long_name}
use Rattle.refusals.specs.Values.{type_named, type_rules, value_rules, literal_word}
use Rattle.refusals.specs.Declarations.{new_rules, new_port_rules}
use Rattle.refusals.specs.Activities.{start_rules, period_rules}
use Rattle.refusals.specs.Draft.{with_function}
use Rattle.refusals.specs.Rules.{Env, grow, rules}
use Rattle.refusals.specs.Texts.{verdict_of}
use Rattle.accepted.specs.NamedItems.{Word, Worded}
use Rattle.accepted.specs.Steps.{plain, guarded, Comes, module-begins, module-section, constant, sensor, actuator, task-begins, task-section, input, output, task-ends, mode-begins, mode-section, activity, guard-alone, guard, guard-arg, guard-last, invoke-alone, invoke, arg, arg-last, update, switch, mode-ends, module-ends, text-ends}
use Rattle.accepted.specs.Folds.{Reaches, whole-named, all_rows, last_env}
use Rattle.accepted.specs.Lists.{each_append, each_none}

pub record NameFits (name : List ℕ) : Type 0 where
  pub good : good_name name ≡ true
  pub some : 0 < length name
  pub short : length name ≤ name_room

word_fits : (s : List ℕ) (name : Name) (rest : List Check) → Word s name → first (long_name name ∷ rest) ≡ Fine → NameFits (letters s name)
word_fits s name rest w v =
    let l = ltb-false name_room (name.end - name.start) (fine-one _ _ v).0 in
    let n = length-slice name.start name.end s w.inside in
    let m = w.some in
    record { good = w.good; some = omega (arith, n, m); short = omega (arith, n, l) }

new-fits : (s : List ℕ) (rows : List Row) (sort : ℕ) (name : Name) → Word s name → first (new_rules s rows sort name) ≡ Fine → NameFits (letters s name)
unfolding new_rules
new-fits s rows sort name w v = word_fits s name _ w v

port-fits : (s : List ℕ) (rows : List Row) (sort : ℕ) (name : Name) → Word s name → first (new_port_rules s rows sort name) ≡ Fine → NameFits (letters s name)
unfolding new_port_rules
port-fits s rows sort name w v = word_fits s name _ w v

-- ---- of the module's parts

abbrev pub SensorNames : Sensor → Type 0
SensorNames sn = NameFits sn.name × NameFits sn.getter

abbrev pub ActuatorNames : Actuator → Type 0
ActuatorNames ac = NameFits ac.name × NameFits ac.setter

abbrev pub OutputNames : Output → Type 0
OutputNames o = NameFits o.name

abbrev pub TaskNames : Task → Type 0
TaskNames task = NameFits task.name × NameFits task.function × Each OutputNames task.outputs

abbrev pub ModeNames : Mode → Type 0
ModeNames mode = NameFits mode.name

pub record Named (env : Env) : Type 0 where
  pub module-name : NameFits env.draft.built.name
  pub sensors-named : Each SensorNames env.draft.built.sensors
  pub actuators-named : Each ActuatorNames env.draft.built.actuators
  pub tasks-named : Each TaskNames env.draft.built.tasks
  pub modes-named : Each ModeNames env.draft.built.modes

abbrev UnderTask : Env → Type 0
UnderTask env = Named env × NameFits env.draft.task.name × Each OutputNames env.draft.task.outputs

abbrev UnderMode : Env → Type 0
UnderMode env = Named env × ModeNames env.draft.mode

record Unnamed (env : Env) : Type 0 where
  no-sensors : env.draft.built.sensors ≡ []
  no-actuators : env.draft.built.actuators ≡ []
  no-tasks : env.draft.built.tasks ≡ []
  no-modes : env.draft.built.modes ≡ []

abbrev Naming : State → ℕ → Env → Type 0
Naming Q.Begin at env = Unnamed env
Naming (Q.Module k) at env = Named env
Naming (Q.Task k) at env = UnderTask env
Naming (Q.Mode k) at env = UnderMode env
Naming (Q.Act k) at env = UnderMode env
Naming (Q.Guarded k) at env = UnderMode env
Naming (Q.GuardArgs k) at env = UnderMode env
Naming Q.Args at env = UnderMode env
Naming Q.Finish at env = Named env

-- nothing of it changes
same : (before after : Env) → Named before → after.draft.built.name ≡ before.draft.built.name → after.draft.built.sensors ≡ before.draft.built.sensors → after.draft.built.actuators ≡ before.draft.built.actuators → after.draft.built.tasks ≡ before.draft.built.tasks → after.draft.built.modes ≡ before.draft.built.modes → Named after
same before after h n a b c d =
    record { module-name = rw n h.module-name; sensors-named = rw a h.sensors-named; actuators-named = rw b h.actuators-named; tasks-named = rw c h.tasks-named; modes-named = rw d h.modes-named }

module _ (s : List ℕ) (all : List Row) (last : Env) where
  naming : {q p : State} {at next : ℕ} {item : Item} (env : Env) → Comes s q at item p next → Worded s item → first (rules s all env item) ≡ Fine → Reaches s all last (grow s all env item) → Naming q at env → Naming p next (grow s all env item)
  naming env (module-begins name) d v r h = record { module-name = word_fits s name [] d v; sensors-named = each_none SensorNames env.draft.built.sensors h.no-sensors; actuators-named = each_none ActuatorNames env.draft.built.actuators h.no-actuators; tasks-named = each_none TaskNames env.draft.built.tasks h.no-tasks; modes-named = each_none ModeNames env.draft.built.modes h.no-modes }
  naming env (module-section k w l b) d v r h = same env _ h refl refl refl refl refl
  naming env (constant name value) d v r h = same env _ h refl refl refl refl refl
  naming env (sensor typ name getter) d v r h =
      let (v0, v1) = fine-parts (type_rules s typ) _ v in
      let (v2, v3) = fine-parts (new_rules s env.rows sensor_sort name) (long_name getter ∷ []) v1 in
      let new : Sensor = record { name = letters s name; type = type_named s typ; getter = letters s getter } in
      record { module-name = h.module-name; sensors-named = each_append SensorNames env.draft.built.sensors (new ∷ []) h.sensors-named ((new-fits s env.rows sensor_sort name d.0 v2, word_fits s getter [] d.1 v3), tt); actuators-named = h.actuators-named; tasks-named = h.tasks-named; modes-named = h.modes-named }
  naming env (actuator typ name value setter) d v r h =
      let (v0, v1) = fine-parts (type_rules s typ) _ v in
      let (v2, v3) = fine-parts (new_rules s env.rows actuator_sort name) _ v1 in
      let (v4, v5) = fine-parts (value_rules s env.rows (type_named s typ) value) (long_name setter ∷ []) v3 in
      let new : Actuator = record { name = letters s name; type = type_named s typ; start = literal_word s env.rows value; setter = letters s setter } in
      record { module-name = h.module-name; sensors-named = h.sensors-named; actuators-named = each_append ActuatorNames env.draft.built.actuators (new ∷ []) h.actuators-named ((new-fits s env.rows actuator_sort name d.0 v2, word_fits s setter [] d.1 v5), tt); tasks-named = h.tasks-named; modes-named = h.modes-named }
  naming env (task-begins k name l) d v r h = (same env _ h refl refl refl refl refl, new-fits s env.rows task_sort name d v, tt)
  naming env (task-section k w l) d v r h = (same env _ h.0 refl refl refl refl refl, h.1, h.2)
  naming env (input typ name) d v r h = (same env _ h.0 refl refl refl refl refl, h.1, h.2)
  naming env (output typ name value) d v r h =
      let (v0, v1) = fine-parts (type_rules s typ) _ v in
      let new : Output = record { name = letters s name; type = type_named s typ; start = literal_word s env.rows value } in
      (same env _ h.0 refl refl refl refl refl, h.1, each_append OutputNames env.draft.task.outputs (new ∷ []) h.2 (port-fits s env.rows output_sort name d (fine-parts (new_port_rules s env.rows output_sort name) (value_rules s env.rows (type_named s typ) value) v1).0, tt))
  naming env (task-ends k name) d v r h =
      let g = h.0 in
      record { module-name = g.module-name; sensors-named = g.sensors-named; actuators-named = g.actuators-named; tasks-named = each_append TaskNames env.draft.built.tasks (with_function env.draft.task (letters s name) ∷ []) g.tasks-named ((h.1, word_fits s name [] d v, h.2), tt); modes-named = g.modes-named }
  naming env (mode-begins k start begin name digits milli l) d v r h = (same env _ h refl refl refl refl refl, new-fits s env.rows mode_sort name d (fine-parts (new_rules s env.rows mode_sort name) (period_rules s digits milli) (fine-parts (start_rules env.draft.started start begin) _ v).1).0)
  naming env (mode-section k w l b) d v r h = (same env _ h.0 refl refl refl refl refl, h.1)
  naming env (activity k begin digits l) d v r h = (same env _ h.0 refl refl refl refl refl, h.1)
  naming env (guard-alone k name) d v r h = (same env _ h.0 refl refl refl refl refl, h.1)
  naming env (guard k name many c) d v r h = (same env _ h.0 refl refl refl refl refl, h.1)
  naming env (guard-arg k port c) d v r h = (same env _ h.0 refl refl refl refl refl, h.1)
  naming env (guard-last k port c) d v r h = (same env _ h.0 refl refl refl refl refl, h.1)
  naming env (invoke-alone name plain) d v r h = (same env _ h.0 refl refl refl refl refl, h.1)
  naming env (invoke-alone name guarded) d v r h = (same env _ h.0 refl refl refl refl refl, h.1)
  naming env (invoke name many plain c) d v r h = (same env _ h.0 refl refl refl refl refl, h.1)
  naming env (invoke name many guarded c) d v r h = (same env _ h.0 refl refl refl refl refl, h.1)
  naming env (arg port c) d v r h = (same env _ h.0 refl refl refl refl refl, h.1)
  naming env (arg-last port c) d v r h = (same env _ h.0 refl refl refl refl refl, h.1)
  naming env (update name source plain) d v r h = (same env _ h.0 refl refl refl refl refl, h.1)
  naming env (update name source guarded) d v r h = (same env _ h.0 refl refl refl refl refl, h.1)
  naming env (switch k name plain a b) d v r h = (same env _ h.0 refl refl refl refl refl, h.1)
  naming env (switch k name guarded a b) d v r h = (same env _ h.0 refl refl refl refl refl, h.1)
  naming env (mode-ends k) d v r h =
      let g = h.0 in
      record { module-name = g.module-name; sensors-named = g.sensors-named; actuators-named = g.actuators-named; tasks-named = g.tasks-named; modes-named = each_append ModeNames env.draft.built.modes (env.draft.mode ∷ []) g.modes-named (h.1, tt) }
  naming env (module-ends k) d v r h = same env _ h refl refl refl refl refl
  naming env text-ends d v r h = same env _ h refl refl refl refl refl

pub names-fit : (s : List ℕ) → syntax_of s ≡ none → verdict_of s ≡ Fine → Named (last_env s)
names-fit s e v =
    let w = whole-named s e v Naming (λ q p at next item. naming s (all_rows s) (last_env s)) (record { no-sensors = refl; no-actuators = refl; no-tasks = refl; no-modes = refl }) in
    w.holds
