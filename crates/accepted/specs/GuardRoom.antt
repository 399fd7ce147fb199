-- Room for guards: a mode has at most 32 activities, and each at most one guard.
use Rattle.std.specs.Prelude.{ℕ, ◌+◌, ◌*◌, ◌≤◌, ◌≡◌, refl, length}
use native.Mathlib.Omega.{arith}
use mathlib.Core.List.{List, [], ◌∷◌, ◌++◌}
use Rattle.std.proofs.Math.Option.{Option, none, some}
use Rattle.std.proofs.Common.{leb-false, length-append}
use Rattle.model.specs.Modules.{Mode, Act, Call, Update}
use Rattle.model.specs.declared.Function.{Function}
use Rattle.model.specs.declared.Operand.{Operand}
use Rattle.model.specs.declared.Guard.{Guard}
use Rattle.text.specs.declared.Name.{Name}
use Rattle.text.specs.declared.State.{State}
use Rattle.text.specs.declared.State.TheVariants as Q
use Rattle.text.specs.declared.Item.{Item}
use Rattle.text.specs.declared.Item.TheVariants as I
use Rattle.text.specs.Items.{syntax_of}
use Rattle.refusals.specs.declared.Row.{Row}
use Rattle.refusals.specs.Verdicts.{Fine}
use Rattle.refusals.specs.Checks.{first}
use Rattle.refusals.specs.ChecksLaws.{fine-one}
use Rattle.refusals.specs.Values.{number_of}
use Rattle.refusals.specs.Activities.{activities_in, head_rules}
use Rattle.refusals.specs.Draft.{Draft, guard_of, last_sourced, drafted}
use Rattle.refusals.specs.Ports.{port_named}
use Rattle.refusals.specs.Rules.{Env, grow, rules, env_after}
use Rattle.refusals.specs.Texts.{verdict_of, module_of}
use Rattle.accepted.specs.Steps.{plain, guarded, Comes, module-begins, module-section, constant, sensor, actuator, task-begins, task-section, input, output, task-ends, mode-begins, mode-section, activity, guard-alone, guard, guard-arg, guard-last, invoke-alone, invoke, arg, arg-last, update, switch, mode-ends, module-ends, text-ends}
use Rattle.timing.specs.SlotLaws.{Each}
use Rattle.accepted.specs.Lists.{each_append, one-longer}
use Rattle.accepted.specs.Folds.{Reaches, whole, all_rows, last_env}

guard-one : (function : Option Function) (operands : List Operand) → length (guard_of function operands) ≤ 1
guard-one none operands = omega arith
guard-one (some function) operands = omega arith

pub guards-longer : (guards : List Guard) (function : Option Function) (operands : List Operand) → (length guards ≤ length (guards ++ guard_of function operands)) × (length (guards ++ guard_of function operands) ≤ length guards + 1)
guards-longer guards function operands =
    let n = length-append guards (guard_of function operands) in
    let m = guard-one function operands in
    (omega (arith, n), omega (arith, n, m))

pub sourced-length : (source : ℕ) (calls : List (Act Call)) → length (last_sourced source calls) ≡ length calls
unfolding last_sourced
sourced-length source [] = refl
sourced-length source (call ∷ []) = refl
sourced-length source (call ∷ next ∷ calls) = let e = sourced-length source (next ∷ calls) in omega (arith, e)

-- ---- guards only grow

module _ (s : List ℕ) (all : List Row) where
  abbrev guards_of : Draft → ℕ
  guards_of draft = length draft.built.guards

  item-grows : (rows : List Row) (draft : Draft) (item : Item) → guards_of draft ≤ guards_of (drafted s all rows draft item)
  item-grows rows draft (I.Module name) = omega arith
  item-grows rows draft I.Section = omega arith
  item-grows rows draft (I.Constant name value) = omega arith
  item-grows rows draft (I.Sensor typ name getter) = omega arith
  item-grows rows draft (I.Actuator typ name value setter) = omega arith
  item-grows rows draft (I.TaskBegin name) = omega arith
  item-grows rows draft (I.Input typ name) = omega arith
  item-grows rows draft (I.Output typ name value) = omega arith
  item-grows rows draft (I.TaskEnd name) = omega arith
  item-grows rows draft (I.ModeBegin start at name digits milli) = omega arith
  item-grows rows draft (I.Activity kind at digits) = omega arith
  item-grows rows draft (I.Guard name many) = omega arith
  item-grows rows draft (I.GuardArg port) = omega arith
  item-grows rows draft (I.Invoke task many) = (guards-longer draft.built.guards draft.doing.function draft.doing.operands).0
  item-grows rows draft (I.Arg port) = omega arith
  item-grows rows draft (I.Update target source) = (guards-longer draft.built.guards draft.doing.function draft.doing.operands).0
  item-grows rows draft (I.Switch name) = (guards-longer draft.built.guards draft.doing.function draft.doing.operands).0
  item-grows rows draft I.ModeEnd = omega arith
  item-grows rows draft I.ModuleEnd = omega arith
  item-grows rows draft I.End = omega arith
  item-grows rows draft (I.No number at) = omega arith

  items-grow : (env : Env) (items : List Item) → guards_of env.draft ≤ guards_of (env_after s all env items).draft
  unfolding env_after
  items-grow env [] = omega arith
  items-grow env (item ∷ items) =
      let a = item-grows env.rows env.draft item in
      let b = items-grow (grow s all env item) items in
      omega (arith, a, b)

pub guards-grow : {s : List ℕ} {all : List Row} {last : Env} (env : Env) → Reaches s all last env → length env.draft.built.guards ≤ length last.draft.built.guards
guards-grow {s} {all} {last} env r = let h = items-grow s all env r.items in rw r.to at h

-- ---- as many as activities at most

abbrev Roomed : ℕ → ℕ → ℕ → ℕ → Type 0
Roomed guards modes activities limit = (guards ≤ 32 * modes + activities) × (activities ≤ limit)

abbrev Rooming : State → ℕ → Env → Type 0
Rooming Q.Begin at env = Roomed (length env.draft.built.guards) (length env.draft.built.modes) 0 0
Rooming (Q.Module k) at env = Roomed (length env.draft.built.guards) (length env.draft.built.modes) 0 0
Rooming (Q.Task k) at env = Roomed (length env.draft.built.guards) (length env.draft.built.modes) 0 0
Rooming (Q.Mode k) at env = Roomed (length env.draft.built.guards) (length env.draft.built.modes) (activities_in env.draft.mode) 32
Rooming (Q.Act k) at env = Roomed (length env.draft.built.guards) (length env.draft.built.modes) (activities_in env.draft.mode) 31
Rooming (Q.Guarded k) at env = Roomed (length env.draft.built.guards) (length env.draft.built.modes) (activities_in env.draft.mode) 31
Rooming (Q.GuardArgs k) at env = Roomed (length env.draft.built.guards) (length env.draft.built.modes) (activities_in env.draft.mode) 31
Rooming Q.Args at env = Roomed (length env.draft.built.guards) (length env.draft.built.modes) (activities_in env.draft.mode) 32
Rooming Q.Finish at env = Roomed (length env.draft.built.guards) (length env.draft.built.modes) 0 0

-- one activity more, of any kind
one-act : (guards more modes calls updates switches calls' updates' switches' : ℕ) → more ≤ guards + 1 → calls' + updates' + switches' ≡ calls + updates + switches + 1
    → Roomed guards modes (calls + updates + switches) 31 → Roomed more modes (calls' + updates' + switches') 32
one-act guards more modes calls updates switches calls' updates' switches' g e h = (omega (arith, g, e, h.0), omega (arith, e, h.1))

head-room : (mode : Mode) (kind at frequency : ℕ) (digits : Name) → first (head_rules mode kind at frequency digits) ≡ Fine → activities_in mode ≤ 31
unfolding head_rules
head-room mode kind at frequency digits v = let l = leb-false 32 (activities_in mode) (fine-one _ _ v).0 in omega (arith, l)

module _ (env : Env) where
  abbrev grown : length (env.draft.built.guards ++ guard_of env.draft.doing.function env.draft.doing.operands) ≤ length env.draft.built.guards + 1
  grown = (guards-longer env.draft.built.guards env.draft.doing.function env.draft.doing.operands).1

  abbrev before : ℕ
  before = length env.draft.built.guards

  one-call : (call : Act Call) → Roomed before (length env.draft.built.modes) (activities_in env.draft.mode) 31 → Roomed (length (env.draft.built.guards ++ guard_of env.draft.doing.function env.draft.doing.operands)) (length env.draft.built.modes) (length (env.draft.mode.calls ++ (call ∷ [])) + length env.draft.mode.updates + length env.draft.mode.switches) 32
  one-call call h = one-act before _ (length env.draft.built.modes) (length env.draft.mode.calls) (length env.draft.mode.updates) (length env.draft.mode.switches) _ _ _ grown (let n = one-longer env.draft.mode.calls call in omega (arith, n)) h

  one-update : (act : Act Update) → Roomed before (length env.draft.built.modes) (activities_in env.draft.mode) 31 → Roomed (length (env.draft.built.guards ++ guard_of env.draft.doing.function env.draft.doing.operands)) (length env.draft.built.modes) (length env.draft.mode.calls + length (env.draft.mode.updates ++ (act ∷ [])) + length env.draft.mode.switches) 32
  one-update act h = one-act before _ (length env.draft.built.modes) (length env.draft.mode.calls) (length env.draft.mode.updates) (length env.draft.mode.switches) _ _ _ grown (let n = one-longer env.draft.mode.updates act in omega (arith, n)) h

  one-switch : (act : Act ℕ) → Roomed before (length env.draft.built.modes) (activities_in env.draft.mode) 31 → Roomed (length (env.draft.built.guards ++ guard_of env.draft.doing.function env.draft.doing.operands)) (length env.draft.built.modes) (length env.draft.mode.calls + length env.draft.mode.updates + length (env.draft.mode.switches ++ (act ∷ []))) 32
  one-switch act h = one-act before _ (length env.draft.built.modes) (length env.draft.mode.calls) (length env.draft.mode.updates) (length env.draft.mode.switches) _ _ _ grown (let n = one-longer env.draft.mode.switches act in omega (arith, n)) h

module _ (s : List ℕ) (all : List Row) (last : Env) where
  rooming : {q p : State} {at next : ℕ} {item : Item} (env : Env) → Comes s q at item p next → first (rules s all env item) ≡ Fine → Reaches s all last (grow s all env item) → Rooming q at env → Rooming p next (grow s all env item)
  rooming env (module-begins name) v r h = h
  rooming env (module-section k w l b) v r h = h
  rooming env (constant name value) v r h = h
  rooming env (sensor typ name getter) v r h = h
  rooming env (actuator typ name value setter) v r h = h
  rooming env (task-begins k name l) v r h = h
  rooming env (task-section k w l) v r h = h
  rooming env (input typ name) v r h = h
  rooming env (output typ name value) v r h = h
  rooming env (task-ends k name) v r h = h
  rooming env (mode-begins k start begin name digits milli l) v r h = (omega (arith, h.0), omega arith)
  rooming env (mode-section k w l b) v r h = h
  rooming env (activity k begin digits l) v r h = (h.0, head-room env.draft.mode k begin (number_of s digits) digits v)
  rooming env (guard-alone k name) v r h = h
  rooming env (guard k name many c) v r h = h
  rooming env (guard-arg k port c) v r h = h
  rooming env (guard-last k port c) v r h = h
  rooming env (invoke-alone name plain) v r h = one-call env _ h
  rooming env (invoke-alone name guarded) v r h = one-call env _ h
  rooming env (invoke name many plain c) v r h = one-call env _ h
  rooming env (invoke name many guarded c) v r h = one-call env _ h
  rooming env (arg port c) v r h = let n = sourced-length (port_named s env.rows port).value env.draft.mode.calls in (omega (arith, n, h.0), omega (arith, n, h.1))
  rooming env (arg-last port c) v r h = let n = sourced-length (port_named s env.rows port).value env.draft.mode.calls in (omega (arith, n, h.0), omega (arith, n, h.1))
  rooming env (update name source plain) v r h = one-update env _ h
  rooming env (update name source guarded) v r h = one-update env _ h
  rooming env (switch k name plain a b) v r h = one-switch env _ h
  rooming env (switch k name guarded a b) v r h = one-switch env _ h
  rooming env (mode-ends k) v r h = let n = one-longer env.draft.built.modes env.draft.mode in (omega (arith, n, h.0, h.1), omega arith)
  rooming env (module-ends k) v r h = h
  rooming env text-ends v r h = h

pub guards-room : (s : List ℕ) → syntax_of s ≡ none → verdict_of s ≡ Fine → length (module_of s).guards ≤ 32 * length (module_of s).modes
guards-room s e v =
    let w = whole s e v Rooming (λ q p at next item. rooming s (all_rows s) (last_env s)) (omega arith, omega arith) in
    let h = w.holds.0 in
    omega (arith, h)

-- ---- activities of each mode

abbrev Busy : Mode → Type 0
Busy mode = activities_in mode ≤ 32

abbrev Working : State → ℕ → Env → Type 0
Working q at env = Rooming q at env × Each Busy env.draft.built.modes

module _ (s : List ℕ) (all : List Row) (last : Env) where
  working : {q p : State} {at next : ℕ} {item : Item} (env : Env) → Comes s q at item p next → Rooming q at env → Each Busy env.draft.built.modes → Each Busy (grow s all env item).draft.built.modes
  working env (module-begins name) r h = h
  working env (module-section k w l b) r h = h
  working env (constant name value) r h = h
  working env (sensor typ name getter) r h = h
  working env (actuator typ name value setter) r h = h
  working env (task-begins k name l) r h = h
  working env (task-section k w l) r h = h
  working env (input typ name) r h = h
  working env (output typ name value) r h = h
  working env (task-ends k name) r h = h
  working env (mode-begins k start begin name digits milli l) r h = h
  working env (mode-section k w l b) r h = h
  working env (activity k begin digits l) r h = h
  working env (guard-alone k name) r h = h
  working env (guard k name many c) r h = h
  working env (guard-arg k port c) r h = h
  working env (guard-last k port c) r h = h
  working env (invoke-alone name plain) r h = h
  working env (invoke-alone name guarded) r h = h
  working env (invoke name many plain c) r h = h
  working env (invoke name many guarded c) r h = h
  working env (arg port c) r h = h
  working env (arg-last port c) r h = h
  working env (update name source plain) r h = h
  working env (update name source guarded) r h = h
  working env (switch k name plain a b) r h = h
  working env (switch k name guarded a b) r h = h
  working env (mode-ends k) r h = each_append Busy env.draft.built.modes (env.draft.mode ∷ []) h (r.1, tt)
  working env (module-ends k) r h = h
  working env text-ends r h = h

pub activities-room : (s : List ℕ) → syntax_of s ≡ none → verdict_of s ≡ Fine → Each (λ m. activities_in m ≤ 32) (module_of s).modes
activities-room s e v =
    let w = whole s e v Working (λ q p at next item env c f r h. (rooming s (all_rows s) (last_env s) env c f r h.0, working s (all_rows s) (last_env s) env c h.0 h.1)) ((omega arith, omega arith), tt) in
    w.holds.1
