-- Types and values: known types, and values that fit them (document 01, 'The file', types and values).
use Rattle.std.specs.Prelude.{ℕ, ◌<◌, ◌≡◌, refl, List, [], ◌∷◌, ◌++◌, Bool, true, false, cond, not, eqb, leb}
use Rattle.std.proofs.Common.{arith, append-nil, eqb-true, leb-false, ne_eqb}
use Rattle.std.proofs.Math.Option.{none}
use Rattle.std.proofs.lemmas.Bool.{not-false}
use Rattle.model.specs.Values.{fits_type}
use Rattle.model.specs.Modules.{Sensor, Actuator, Output, Task}
use Rattle.text.specs.declared.Name.{Name}
use Rattle.text.specs.declared.Literal.{Literal}
use Rattle.text.specs.declared.Literal.TheVariants.{Truth, Number, Named}
use Rattle.text.specs.declared.State.{State}
use Rattle.text.specs.declared.Item.{Item}
use Rattle.text.specs.Items.{syntax_of}
use Rattle.timing.specs.SlotLaws.{Each}
use Rattle.refusals.specs.declared.Row.{Row}
use Rattle.refusals.specs.Verdicts.{Fine}
use Rattle.refusals.specs.Checks.{first}
use Rattle.refusals.specs.ChecksLaws.{fine-parts, fine-one}
use Rattle.refusals.specs.Names.{letters, module_scope, constant_sort, actuator_sort, task_sort, mode_sort, output_sort, no_type}
use Rattle.refusals.specs.Refusals.{clash}
use Rattle.refusals.specs.Values.{type_named, constant_named, literal_type, literal_word, type_rules, use_rules, value_rules}
use Rattle.refusals.specs.Declarations.{new_rules, new_port_rules}
use Rattle.refusals.specs.Draft.{with_function}
use Rattle.refusals.specs.Rules.{Env, grow, rules}
use Rattle.refusals.specs.Texts.{verdict_of}
use Rattle.accepted.specs.Steps.{plain, guarded, Comes, module-begins, module-section, constant, sensor, actuator, task-begins, task-section, input, output, task-ends, mode-begins, mode-section, activity, guard-alone, guard, guard-arg, guard-last, invoke-alone, invoke, arg, arg-last, update, switch, mode-ends, module-ends, text-ends}
use Rattle.accepted.specs.Folds.{whole, all_rows, last_env}
use Rattle.accepted.specs.Lists.{each_append}
use Rattle.accepted.specs.RowsFit.{Fitting, fitting, RowsFit, named_in, use-known, value-word}

-- what has a type has a known one, and a constant's value fits it
pub record Typed (row : Row) : Type 0 where
  pub known : (row.sort ≡ task_sort → ⊥) → (row.sort ≡ mode_sort → ⊥) → row.typ < 2
  pub fits : row.sort ≡ constant_sort → fits_type row.typ row.value ≡ true

pub type-known : (s : List ℕ) (name : Name) → first (type_rules s name) ≡ Fine → type_named s name < 2
unfolding type_rules
type-known s name v = leb-false no_type (type_named s name) (fine-one _ _ (fine-one _ _ v).1).0

-- two known types that do not clash are one
pub clash-same : (wanted typ : ℕ) → clash wanted typ ≡ false → wanted < 2 → typ < 2 → wanted ≡ typ
clash-same wanted typ e l k =
    let a : eqb wanted no_type ≡ false = ne_eqb wanted no_type (λ q. omega (arith, q, l)) in
    let b : eqb typ no_type ≡ false = ne_eqb typ no_type (λ q. omega (arith, q, k)) in
    eqb-true wanted typ (not-false (eqb wanted typ) (rw (a, b) at e))

pub use-agrees : (wanted : ℕ) (row : Row) (name : Name) → first (use_rules wanted row name) ≡ Fine → clash wanted row.typ ≡ false
unfolding use_rules
use-agrees wanted row name v = (fine-one _ _ (fine-one _ _ (fine-one _ _ v).1).1).0

pub record ValueFits (s : List ℕ) (rows : List Row) (wanted : ℕ) (value : Literal) : Type 0 where
  pub known : literal_type s rows value < 2
  pub fits : fits_type (literal_type s rows value) (literal_word s rows value) ≡ true
  pub agrees : wanted < 2 → wanted ≡ literal_type s rows value

value-fits : (s : List ℕ) (rows : List Row) (wanted : ℕ) (value : Literal) → Each Typed rows → first (value_rules s rows wanted value) ≡ Fine → ValueFits s rows wanted value
unfolding value_rules
value-fits s rows wanted (Truth at truth) h v = record { known = omega arith; fits = by truth; agrees = λ l. clash-same wanted 1 (fine-one _ _ v).0 l (omega arith) }
  where
    by : (b : Bool) → leb (cond b 1 0) 1 ≡ true
    by true = refl
    by false = refl
value-fits s rows wanted (Number at digits minus) h v = record { known = omega arith; fits = refl; agrees = λ l. clash-same wanted 0 (fine-one _ _ v).0 l (omega arith) }
value-fits s rows wanted (Named name) h v =
    let row = constant_named s rows name in
    let (t, q) = named_in Typed s rows module_scope constant_sort name h (use-known wanted row name v) in
    let k = t.known (λ e. omega (arith, q, e)) (λ e. omega (arith, q, e)) in
    record { known = k; fits = t.fits q; agrees = λ l. clash-same wanted row.typ (use-agrees wanted row name v) l k }

-- ---- of the module's parts

pub record StartFits (type start : ℕ) : Type 0 where
  pub known : type < 2
  pub fits : fits_type type start ≡ true
  pub word : start < 4294967296

abbrev pub OutputFits : Output → Type 0
OutputFits o = StartFits o.type o.start

abbrev pub ActuatorFits : Actuator → Type 0
ActuatorFits a = StartFits a.type a.start

pub record TaskFits (task : Task) : Type 0 where
  pub inputs-known : Each (λ type. type < 2) task.inputs
  pub outputs-fit : Each OutputFits task.outputs

start_fits : (s : List ℕ) (rows : List Row) (type : ℕ) (value : Literal) → type < 2 → Each Typed rows → RowsFit rows → first (value_rules s rows type value) ≡ Fine → StartFits type (literal_word s rows value)
start_fits s rows type value l h f v =
    let w = value-fits s rows type value h v in
    record { known = l; fits = rw (w.agrees l) w.fits; word = value-word s rows rows type value f v }

pub record Parts (env : Env) : Type 0 where
  pub rows-typed : Each Typed env.rows
  pub sensors-known : Each (λ (sn : Sensor). sn.type < 2) env.draft.built.sensors
  pub actuators-fit : Each ActuatorFits env.draft.built.actuators
  pub tasks-fit : Each TaskFits env.draft.built.tasks
  pub task-fits : TaskFits env.draft.task

typed_one : (rows : List Row) (row : Row) → Each Typed rows → Typed row → Each Typed (rows ++ (row ∷ []))
typed_one rows row h t = each_append Typed rows (row ∷ []) h (t, tt)

-- a row of a known type that is no constant; one of a task or a mode
typed-port : (row : Row) → row.typ < 2 → (row.sort ≡ constant_sort → ⊥) → Typed row
typed-port row l n = record { known = λ a b. l; fits = λ e. absurd (n e) }

typed-same : (rows : List Row) → Each Typed rows → Each Typed (rows ++ [])
typed-same rows h = rw (append-nil rows) h

module _ (s : List ℕ) (all : List Row) (last : Env) where
  -- nothing of it changes
  same_parts : (rows : List Row) (before after : Env) → Parts before → after.rows ≡ before.rows ++ [] → after.draft.built.sensors ≡ before.draft.built.sensors → after.draft.built.actuators ≡ before.draft.built.actuators → after.draft.built.tasks ≡ before.draft.built.tasks → after.draft.task ≡ before.draft.task → Parts after
  same_parts rows before after h r a b c d =
      record {
        rows-typed = rw r (typed-same before.rows h.rows-typed);
        sensors-known = rw a h.sensors-known;
        actuators-fit = rw b h.actuators-fit;
        tasks-fit = rw c h.tasks-fit;
        task-fits = rw d h.task-fits;
      }

  parts : {q p : State} {at next : ℕ} {item : Item} (env : Env) → Comes s q at item p next → first (rules s all env item) ≡ Fine → RowsFit env.rows → Parts env → Parts (grow s all env item)
  parts env (module-begins name) v f h = same_parts env.rows env _ h refl refl refl refl refl
  parts env (module-section k w l b) v f h = same_parts env.rows env _ h refl refl refl refl refl
  parts env (constant name value) v f h =
      let w = value-fits s env.rows no_type value h.rows-typed (fine-parts (new_rules s env.rows constant_sort name) (value_rules s env.rows no_type value) v).1 in
      record { rows-typed = typed_one env.rows _ h.rows-typed (record { known = λ a b. w.known; fits = λ e. w.fits }); sensors-known = h.sensors-known; actuators-fit = h.actuators-fit; tasks-fit = h.tasks-fit; task-fits = h.task-fits }
  parts env (sensor typ name getter) v f h =
      let k = type-known s typ (fine-parts (type_rules s typ) _ v).0 in
      record { rows-typed = typed_one env.rows _ h.rows-typed (typed-port _ k (λ e. omega (arith, e))); sensors-known = each_append (λ (sn : Sensor). sn.type < 2) env.draft.built.sensors (record { name = letters s name; type = type_named s typ; getter = letters s getter } ∷ []) h.sensors-known (k, tt); actuators-fit = h.actuators-fit; tasks-fit = h.tasks-fit; task-fits = h.task-fits }
  parts env (actuator typ name value setter) v f h =
      let (v0, v1) = fine-parts (type_rules s typ) _ v in
      let k = type-known s typ v0 in
      let (v2, v3) = fine-parts (new_rules s env.rows actuator_sort name) _ v1 in
      let w = start_fits s env.rows (type_named s typ) value k h.rows-typed f (fine-parts (value_rules s env.rows (type_named s typ) value) _ v3).0 in
      record { rows-typed = typed_one env.rows _ h.rows-typed (typed-port _ k (λ e. omega (arith, e))); sensors-known = h.sensors-known; actuators-fit = each_append ActuatorFits env.draft.built.actuators (record { name = letters s name; type = type_named s typ; start = literal_word s env.rows value; setter = letters s setter } ∷ []) h.actuators-fit (w, tt); tasks-fit = h.tasks-fit; task-fits = h.task-fits }
  parts env (task-begins k name l) v f h =
      record { rows-typed = typed_one env.rows _ h.rows-typed (record { known = λ a b. absurd (a refl); fits = λ e. absurd (omega (arith, e)) }); sensors-known = h.sensors-known; actuators-fit = h.actuators-fit; tasks-fit = h.tasks-fit; task-fits = record { inputs-known = tt; outputs-fit = tt } }
  parts env (task-section k w l) v f h = same_parts env.rows env _ h refl refl refl refl refl
  parts env (input typ name) v f h =
      let k = type-known s typ (fine-parts (type_rules s typ) _ v).0 in
      record { rows-typed = typed_one env.rows _ h.rows-typed (typed-port _ k (λ e. omega (arith, e))); sensors-known = h.sensors-known; actuators-fit = h.actuators-fit; tasks-fit = h.tasks-fit; task-fits = record { inputs-known = each_append (λ type. type < 2) env.draft.task.inputs (type_named s typ ∷ []) h.task-fits.inputs-known (k, tt); outputs-fit = h.task-fits.outputs-fit } }
  parts env (output typ name value) v f h =
      let (v0, v1) = fine-parts (type_rules s typ) _ v in
      let k = type-known s typ v0 in
      let w = start_fits s env.rows (type_named s typ) value k h.rows-typed f (fine-parts (new_port_rules s env.rows output_sort name) (value_rules s env.rows (type_named s typ) value) v1).1 in
      record { rows-typed = typed_one env.rows _ h.rows-typed (typed-port _ k (λ e. omega (arith, e))); sensors-known = h.sensors-known; actuators-fit = h.actuators-fit; tasks-fit = h.tasks-fit; task-fits = record { inputs-known = h.task-fits.inputs-known; outputs-fit = each_append OutputFits env.draft.task.outputs (record { name = letters s name; type = type_named s typ; start = literal_word s env.rows value } ∷ []) h.task-fits.outputs-fit (w, tt) } }
  parts env (task-ends k name) v f h =
      record { rows-typed = typed-same env.rows h.rows-typed; sensors-known = h.sensors-known; actuators-fit = h.actuators-fit; tasks-fit = each_append TaskFits env.draft.built.tasks (with_function env.draft.task (letters s name) ∷ []) h.tasks-fit (record { inputs-known = h.task-fits.inputs-known; outputs-fit = h.task-fits.outputs-fit }, tt); task-fits = h.task-fits }
  parts env (mode-begins k start begin name digits milli l) v f h =
      record { rows-typed = typed_one env.rows _ h.rows-typed (record { known = λ a b. absurd (b refl); fits = λ e. absurd (omega (arith, e)) }); sensors-known = h.sensors-known; actuators-fit = h.actuators-fit; tasks-fit = h.tasks-fit; task-fits = h.task-fits }
  parts env (mode-section k w l b) v f h = same_parts env.rows env _ h refl refl refl refl refl
  parts env (activity k begin digits l) v f h = same_parts env.rows env _ h refl refl refl refl refl
  parts env (guard-alone k name) v f h = same_parts env.rows env _ h refl refl refl refl refl
  parts env (guard k name many c) v f h = same_parts env.rows env _ h refl refl refl refl refl
  parts env (guard-arg k port c) v f h = same_parts env.rows env _ h refl refl refl refl refl
  parts env (guard-last k port c) v f h = same_parts env.rows env _ h refl refl refl refl refl
  parts env (invoke-alone name plain) v f h = same_parts env.rows env _ h refl refl refl refl refl
  parts env (invoke-alone name guarded) v f h = same_parts env.rows env _ h refl refl refl refl refl
  parts env (invoke name many plain c) v f h = same_parts env.rows env _ h refl refl refl refl refl
  parts env (invoke name many guarded c) v f h = same_parts env.rows env _ h refl refl refl refl refl
  parts env (arg port c) v f h = same_parts env.rows env _ h refl refl refl refl refl
  parts env (arg-last port c) v f h = same_parts env.rows env _ h refl refl refl refl refl
  parts env (update name source plain) v f h = same_parts env.rows env _ h refl refl refl refl refl
  parts env (update name source guarded) v f h = same_parts env.rows env _ h refl refl refl refl refl
  parts env (switch k name plain a b) v f h = same_parts env.rows env _ h refl refl refl refl refl
  parts env (switch k name guarded a b) v f h = same_parts env.rows env _ h refl refl refl refl refl
  parts env (mode-ends k) v f h = same_parts env.rows env _ h refl refl refl refl refl
  parts env (module-ends k) v f h = same_parts env.rows env _ h refl refl refl refl refl
  parts env text-ends v f h = same_parts env.rows env _ h refl refl refl refl refl

abbrev Typing : State → ℕ → Env → Type 0
Typing q at env = Fitting q at env × Parts env

pub parts-fit : (s : List ℕ) → syntax_of s ≡ none → verdict_of s ≡ Fine → Parts (last_env s)
parts-fit s e v =
    let w = whole s e v Typing (λ q p at next item env c f r h. (fitting s (all_rows s) (last_env s) env c f r h.0, parts s (all_rows s) (last_env s) env c f h.0 h.1)) (tt, record { rows-typed = tt; sensors-known = tt; actuators-fit = tt; tasks-fit = tt; task-fits = record { inputs-known = tt; outputs-fit = tt } }) in
    w.holds.1
