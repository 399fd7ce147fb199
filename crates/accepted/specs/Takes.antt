-- The drivers of an accepted text: sources of the right role and type, as many as a task has inputs (document 01, 'The file', refusal 24).
use Rattle.std.specs.Prelude.{ℕ, zero, suc, ◌+◌, ◌<◌, ◌≡◌, Bool, false, ◌&&◌, drop}
use native.Mathlib.Omega.{arith}
use Rattle.std.proofs.Math.Path.{refl, sym, ap}
use Rattle.std.proofs.Common.{◌∙◌}
use mathlib.Core.List.{List, [], ◌∷◌, ◌++◌, append-nil, append_assoc}
use Rattle.std.proofs.Math.Bool.{true}
use Rattle.std.proofs.Math.Option.{none}
use borrow.Author.Tests.{eqb-true, eq-eqb, not-false}
use Rattle.std.proofs.Math.Dec.{eqb}
use Rattle.std.proofs.Math.ListN.{length, get_or}
use Rattle.codec.proofs.Codecs.{and_right}
use Rattle.model.specs.Instructions.{updates}
use Rattle.model.specs.Modules.{Module, Task, no_task, Mode, Act, Call, Update}
use Rattle.file.specs.References.{is_source, takes, good_driver}
use Rattle.text.specs.declared.Name.{Name}
use Rattle.text.specs.declared.Port.{Port}
use Rattle.text.specs.declared.State.{State}
use Rattle.text.specs.declared.State.TheVariants as Q
use Rattle.text.specs.declared.Item.{Item}
use Rattle.text.specs.declared.Item.TheVariants as I
use Rattle.text.specs.Items.{syntax_of}
use Rattle.text.specs.Productions.{count_at}
use Rattle.timing.specs.SlotLaws.{Each}
use Rattle.refusals.specs.declared.Row.{Row}
use Rattle.refusals.specs.Verdicts.{Fine}
use Rattle.refusals.specs.Checks.{first}
use Rattle.refusals.specs.ChecksLaws.{fine-one, fine-parts}
use Rattle.refusals.specs.Names.{module_scope, task_sort, no_type, is_known, count, types}
use Rattle.refusals.specs.NamesLaws.{types-count}
use Rattle.refusals.specs.Declarations.{tasks_in}
use Rattle.refusals.specs.Ports.{task_named, port_named, port_rules}
use Rattle.refusals.specs.Activities.{inputs_of, input_types, invoke_rules, actuator_named, actuator_rules}
use Rattle.refusals.specs.Draft.{Draft, last_sourced, acting}
use Rattle.refusals.specs.Rules.{Env, grow, rules, wanted_next}
use Rattle.refusals.specs.Texts.{verdict_of, module_of}
use Rattle.accepted.specs.Steps.{plain, guarded, Comes, module-begins, module-section, constant, sensor, actuator, task-begins, task-section, input, output, task-ends, mode-begins, mode-section, activity, guard-alone, guard, guard-arg, guard-last, invoke-alone, invoke, arg, arg-last, update, switch, mode-ends, module-ends, text-ends}
use Rattle.accepted.specs.Folds.{Reaches, whole, all_rows, last_env, last-rows}
use Rattle.accepted.specs.Lists.{each_append, each_map, and-false}
use Rattle.accepted.specs.RowsFit.{RowFits, RowsFit, named_in}
use Rattle.accepted.specs.Tallies.{nothing_yet}
use Rattle.accepted.specs.TaskPorts.{Told, told-types, Porting, porting}
use Rattle.accepted.specs.TasksGrow.{tasks-first, first-same}
use Rattle.accepted.specs.Kinds.{rows-placed}
use Rattle.accepted.specs.PortOrder.{kinds-are}
use Rattle.accepted.specs.TypesFit.{TaskFits, parts-fit}
use Rattle.accepted.specs.Meanings.{roles_of, types_of, Clear, rows-clear, rows-each, Source, port-source, Target, actuator-target}

each-second : (C : ℕ → Type 0) (xs ys : List ℕ) → Each C (xs ++ ys) → Each C ys
each-second C [] ys h = h
each-second C (x ∷ xs) ys h = each-second C xs ys h.1

inputs-known-at : (tasks : List Task) (k : ℕ) → Each TaskFits tasks → Each (λ type. type < 2) (get_or tasks k no_task).inputs
inputs-known-at [] k h = tt
inputs-known-at (task ∷ tasks) zero h = h.0.inputs-known
inputs-known-at (task ∷ tasks) (suc k) h = inputs-known-at tasks k h.1

take-one : (roles kinds done sources : List ℕ) (p w : ℕ) → takes roles kinds done sources ≡ true → is_source roles p ≡ true → get_or kinds p 0 ≡ w → takes roles kinds (done ++ (w ∷ [])) (sources ++ (p ∷ [])) ≡ true
unfolding takes
take-one roles kinds [] [] p w h r e = rw (r, eq-eqb (get_or kinds p 0) w e)
take-one roles kinds [] (q ∷ sources) p w h r e = let z : ◌≡◌ {A = ℕ} 0 1 = cc in absurd (omega arith)
take-one roles kinds (x ∷ done) [] p w h r e = let z : ◌≡◌ {A = ℕ} 0 1 = cc in absurd (omega arith)
take-one roles kinds (x ∷ done) (q ∷ sources) p w h r e = by (is_source roles q && eqb (get_or kinds q 0) x) h (take-one roles kinds done sources p w)
  where
    by : (b : Bool) → (b && takes roles kinds done sources) ≡ true → (takes roles kinds done sources ≡ true → is_source roles p ≡ true → get_or kinds p 0 ≡ w → takes roles kinds (done ++ (w ∷ [])) (sources ++ (p ∷ [])) ≡ true) → (b && takes roles kinds (done ++ (w ∷ [])) (sources ++ (p ∷ []))) ≡ true
    by true h on = on h r e
    by false h on = let z : ◌≡◌ {A = ℕ} 0 1 = cc in absurd (omega arith)

module _ (M : Module) where
  abbrev inputs_for : Act Call → List ℕ
  inputs_for call = (get_or M.tasks call.what.task no_task).inputs

  abbrev pub Taken : Act Call → Type 0
  Taken call = takes (roles_of M) (types_of M) (inputs_for call) call.what.sources ≡ true

  abbrev pub Updated : Act Update → Type 0
  Updated act = good_driver (roles_of M) (types_of M) M.tasks (updates act.what.source act.what.target) ≡ true

  -- sources of these types are still to come
  record Pends (wanted : List ℕ) (call : Act Call) : Type 0 where
    done : List ℕ
    split : inputs_for call ≡ done ++ wanted
    so_far : takes (roles_of M) (types_of M) done call.what.sources ≡ true

  abbrev Pending : List ℕ → List (Act Call) → Type 0
  Pending wanted [] = ⊥
  Pending wanted (call ∷ []) = Pends wanted call
  Pending wanted (call ∷ next ∷ calls) = Taken call × Pending wanted (next ∷ calls)

  pending-new : (wanted : List ℕ) (call : Act Call) (calls : List (Act Call)) → Each Taken calls → Pends wanted call → Pending wanted (calls ++ (call ∷ []))
  pending-new wanted call [] h e = e
  pending-new wanted call (other ∷ []) h e = (h.0, e)
  pending-new wanted call (other ∷ next ∷ calls) h e = (h.0, pending-new wanted call (next ∷ calls) h.1 e)

  pending-source : (w : ℕ) (rest : List ℕ) (source : ℕ) (calls : List (Act Call)) → is_source (roles_of M) source ≡ true → get_or (types_of M) source 0 ≡ w → Pending (w ∷ rest) calls → Pending rest (last_sourced source calls)
  unfolding last_sourced
  pending-source w rest source [] r e h = h
  pending-source w rest source (call ∷ []) r e h =
      record { done = h.done ++ (w ∷ []); split = h.split ∙ sym (append_assoc h.done (w ∷ []) rest); so_far = take-one (roles_of M) (types_of M) h.done call.what.sources source w h.so_far r e }
  pending-source w rest source (call ∷ next ∷ []) r e h = (h.0, pending-source w rest source (next ∷ []) r e h.1)
  pending-source w rest source (call ∷ next ∷ third ∷ calls) r e h = (h.0, pending-source w rest source (next ∷ third ∷ calls) r e h.1)

  pending_done : (calls : List (Act Call)) → Pending [] calls → Each Taken calls
  pending_done [] h = tt
  pending_done (call ∷ []) h = (rw (h.split ∙ append-nil h.done) h.so_far, tt)
  pending_done (call ∷ next ∷ calls) h = (h.0, pending_done (next ∷ calls) h.1)

  pending-known : (fit : Each TaskFits M.tasks) (w : ℕ) (rest : List ℕ) (calls : List (Act Call)) → Pending (w ∷ rest) calls → w < 2
  pending-known fit w rest [] h = absurd h
  pending-known fit w rest (call ∷ []) h = (each-second (λ type. type < 2) h.done (w ∷ rest) (rw h.split at (inputs-known-at M.tasks call.what.task fit))).0
  pending-known fit w rest (call ∷ next ∷ calls) h = pending-known fit w rest (next ∷ calls) h.1

  -- one argument more
  argued : (fit : Each TaskFits M.tasks) (wanted : List ℕ) (n : ℕ) (row : Row) (calls : List (Act Call)) → length wanted ≡ n + 1 → Source M (get_or wanted 0 no_type) row → Pending wanted calls → Pending (drop 1 wanted) (last_sourced row.value calls) × (length (drop 1 wanted) ≡ n)
  argued fit [] n row calls e c h = absurd (omega arith)
  argued fit (w ∷ rest) n row calls e c h =
      let k = pending-known fit w rest calls h in
      (pending-source w rest row.value calls c.role (c.type-is ∙ sym (c.agrees k)) h, omega arith)

  last-argued : (wanted : List ℕ) (calls : List (Act Call)) → length wanted ≡ 0 → Pending wanted calls → Each Taken calls
  last-argued [] calls e h = pending_done calls h
  last-argued (w ∷ rest) calls e h = absurd (omega arith)

  record Args (s : List ℕ) (at : ℕ) (draft : Draft) : Type 0 where
    pending : Pending draft.doing.wanted draft.mode.calls
    left : length draft.doing.wanted ≡ count_at s at
    updated : Each Updated draft.mode.updates

  record Whole (mode : Mode) : Type 0 where
    taken : Each Taken mode.calls
    updated : Each Updated mode.updates

  abbrev TakenIn : List ℕ → State → ℕ → Draft → Type 0
  TakenIn s Q.Begin at draft = Unit {0}
  TakenIn s (Q.Module k) at draft = Unit {0}
  TakenIn s (Q.Task k) at draft = Unit {0}
  TakenIn s (Q.Mode k) at draft = Whole draft.mode
  TakenIn s (Q.Act k) at draft = Whole draft.mode
  TakenIn s (Q.Guarded k) at draft = Whole draft.mode
  TakenIn s (Q.GuardArgs k) at draft = Whole draft.mode
  TakenIn s Q.Args at draft = Args s at draft
  TakenIn s Q.Finish at draft = Unit {0}

  abbrev Taking : List ℕ → State → ℕ → Env → Type 0
  Taking s q at env = Each Whole env.draft.built.modes × TakenIn s q at env.draft

  no-inputs : (roles kinds inputs : List ℕ) → length inputs ≡ 0 → takes roles kinds inputs [] ≡ true
  unfolding takes
  no-inputs roles kinds [] e = refl
  no-inputs roles kinds (x ∷ inputs) e = absurd (omega arith)

  module _ (s : List ℕ) (all : List Row) (last : Env) (same : last.draft.built.tasks ≡ M.tasks) (rows_same : last.rows ≡ all) (clear : Each (Clear M) all) (fit : Each TaskFits M.tasks) where
    -- the arguments to come are of the types of the task's inputs
    invoke-types : (env next : Env) (name : Name) (many : ℕ) → RowsFit env.rows → tasks_in env.rows ≡ length env.draft.built.tasks + 0 → Told 0 env.rows env.draft.built.tasks → Reaches s all last next → next.draft.built.tasks ≡ env.draft.built.tasks
        → first (invoke_rules env.rows env.draft.mode (task_named s env.rows name) name many) ≡ Fine
        → ((get_or M.tasks (task_named s env.rows name).value no_task).inputs ≡ input_types env.rows (task_named s env.rows name) many) × (length (input_types env.rows (task_named s env.rows name) many) ≡ many)
    unfolding invoke_rules
    invoke-types env next name many fits tally told r keep v =
        let row = task_named s env.rows name in
        let w = fine-one _ _ (fine-one _ _ v).1 in
        let (f, q) = named_in (RowFits env.rows) s env.rows module_scope task_sort name fits w.0 in
        let l : row.value < tasks_in env.rows = rw q at f.valued in
        let k : is_known row ≡ true = rw q in
        let n : count (inputs_of row) env.rows ≡ many = eqb-true _ _ (not-false _ (and-false _ _ k (fine-one _ _ w.1).0)) in
        let (more, e) = tasks-first next r in
        let e' : M.tasks ≡ env.draft.built.tasks ++ more = sym same ∙ e ∙ ap (λ (ts : List Task). ts ++ more) keep in
        let below : row.value < length env.draft.built.tasks = omega (arith, l, tally) in
        let g = first-same env.draft.built.tasks more row.value below in
        let t = told-types 0 env.rows env.draft.built.tasks row.value told below in
        let z : 0 + row.value + 1 ≡ row.value + 1 = omega arith in
        let c : (get_or M.tasks row.value no_task).inputs ≡ types (inputs_of row) env.rows = rw e' (rw g (rw z at t)) in
        let b : (is_known row && eqb (count (inputs_of row) env.rows) many) ≡ true = rw (k, eq-eqb _ _ n) in
        (rw b c, rw b (types-count (inputs_of row) env.rows ∙ n))

    alone : (env : Env) (name : Name) → RowsFit env.rows → tasks_in env.rows ≡ length env.draft.built.tasks + 0 → Told 0 env.rows env.draft.built.tasks → first (rules s all env (I.Invoke name 0)) ≡ Fine → Reaches s all last (grow s all env (I.Invoke name 0)) → Whole env.draft.mode → Whole (grow s all env (I.Invoke name 0)).draft.mode
    alone env name fits tally told v r h =
        let call = acting {A = Call} env.draft (record { task = (task_named s env.rows name).value; sources = [] }) in
        let (e, n) = invoke-types env (grow s all env (I.Invoke name 0)) name 0 fits tally told r refl v in
        record { taken = each_append Taken env.draft.mode.calls (call ∷ []) h.taken (no-inputs (roles_of M) (types_of M) (inputs_for call) (ap (λ (l : List ℕ). length l) e ∙ n), tt); updated = h.updated }

    nothing-taken : (roles kinds : List ℕ) → takes roles kinds [] [] ≡ true
    unfolding takes
    nothing-taken roles kinds = refl

    several : (env : Env) (name : Name) (many next : ℕ) → many ≡ count_at s next → RowsFit env.rows → tasks_in env.rows ≡ length env.draft.built.tasks + 0 → Told 0 env.rows env.draft.built.tasks → first (rules s all env (I.Invoke name many)) ≡ Fine → Reaches s all last (grow s all env (I.Invoke name many)) → Whole env.draft.mode → Args s next (grow s all env (I.Invoke name many)).draft
    several env name many next c fits tally told v r h =
        let (e, n) = invoke-types env (grow s all env (I.Invoke name many)) name many fits tally told r refl v in
        let call = acting {A = Call} env.draft (record { task = (task_named s env.rows name).value; sources = [] }) in
        let wanted = input_types env.rows (task_named s env.rows name) many in
        record { pending = pending-new wanted call env.draft.mode.calls h.taken (record { done = []; split = e; so_far = nothing-taken (roles_of M) (types_of M) }); left = n ∙ c; updated = h.updated }

    actuator-known : (rows : List Row) (mode : Mode) (name : Name) → Each (Clear M) rows → first (actuator_rules mode (actuator_named s rows name) name) ≡ Fine → Target M (actuator_named s rows name)
    unfolding actuator_rules
    actuator-known rows mode name known v = actuator-target M s rows known name (fine-one _ _ (fine-one _ _ v).1).0

    update-good : (from_row target : Row) → Target M target → Source M target.typ from_row → good_driver (roles_of M) (types_of M) M.tasks (updates from_row.value target.value) ≡ true
    unfolding good_driver
    update-good from_row target t c =
        let e : get_or (types_of M) from_row.value 0 ≡ get_or (types_of M) target.value 0 = c.type-is ∙ sym (c.agrees t.known) ∙ sym t.type-is in
        rw (c.role, t.role, eq-eqb _ _ e)

    updating : (env : Env) (name : Name) (source : Port) → first (rules s all env (I.Update name source)) ≡ Fine → Reaches s all last (grow s all env (I.Update name source)) → Whole env.draft.mode → Whole (grow s all env (I.Update name source)).draft.mode
    updating env name source v r h =
        let known = rows-each (Clear M) env (I.Update name source) rows_same clear r in
        let row = actuator_named s env.rows name in
        let (v0, v1) = fine-parts (actuator_rules env.draft.mode row name) (port_rules s env.rows row.typ source) v in
        let t = actuator-known env.rows env.draft.mode name known v0 in
        let c = port-source M s env.rows known row.typ source v1 in
        let act = acting {A = Update} env.draft (record { source = (port_named s env.rows source).value; target = row.value }) in
        record { taken = h.taken; updated = each_append Updated env.draft.mode.updates (act ∷ []) h.updated (update-good (port_named s env.rows source) row t c, tt) }

    taking : {q p : State} {at next : ℕ} {item : Item} (env : Env) → Comes s q at item p next → first (rules s all env item) ≡ Fine → Reaches s all last (grow s all env item) → Porting q at env → Taking s q at env → Taking s p next (grow s all env item)
    taking env (module-begins name) v r t h = (h.0, tt)
    taking env (module-section k w l b) v r t h = (h.0, tt)
    taking env (constant name value) v r t h = (h.0, tt)
    taking env (sensor typ name getter) v r t h = (h.0, tt)
    taking env (actuator typ name value setter) v r t h = (h.0, tt)
    taking env (task-begins k name l) v r t h = (h.0, tt)
    taking env (task-section k w l) v r t h = h
    taking env (input typ name) v r t h = (h.0, tt)
    taking env (output typ name value) v r t h = (h.0, tt)
    taking env (task-ends k name) v r t h = (h.0, tt)
    taking env (mode-begins k start begin name digits milli l) v r t h = (h.0, record { taken = tt; updated = tt })
    taking env (mode-section k w l b) v r t h = h
    taking env (activity k begin digits l) v r t h = h
    taking env (guard-alone k name) v r t h = h
    taking env (guard k name many c) v r t h = h
    taking env (guard-arg k port c) v r t h = h
    taking env (guard-last k port c) v r t h = h
    taking env (invoke-alone name plain) v r t h = (h.0, alone env name t.0 t.1.of-tasks t.2.0 v r h.1)
    taking env (invoke-alone name guarded) v r t h = (h.0, alone env name t.0 t.1.of-tasks t.2.0 v r h.1)
    taking env (invoke name many plain c) v r t h = (h.0, several env name many _ c t.0 t.1.of-tasks t.2.0 v r h.1)
    taking env (invoke name many guarded c) v r t h = (h.0, several env name many _ c t.0 t.1.of-tasks t.2.0 v r h.1)
    taking env (arg port c) v r t h =
        let (g, n) = argued fit env.draft.doing.wanted _ (port_named s env.rows port) env.draft.mode.calls (h.1.left ∙ c) (port-source M s env.rows (rows-each (Clear M) env (I.Arg port) rows_same clear r) (wanted_next env) port v) h.1.pending in
        (h.0, record { pending = g; left = n; updated = h.1.updated })
    taking env (arg-last port c) v r t h =
        let (g, n) = argued fit env.draft.doing.wanted 0 (port_named s env.rows port) env.draft.mode.calls (h.1.left ∙ c) (port-source M s env.rows (rows-each (Clear M) env (I.Arg port) rows_same clear r) (wanted_next env) port v) h.1.pending in
        (h.0, record { taken = last-argued (drop 1 env.draft.doing.wanted) (last_sourced (port_named s env.rows port).value env.draft.mode.calls) n g; updated = h.1.updated })
    taking env (update name source plain) v r t h = (h.0, updating env name source v r h.1)
    taking env (update name source guarded) v r t h = (h.0, updating env name source v r h.1)
    taking env (switch k name plain a b) v r t h = (h.0, record { taken = h.1.taken; updated = h.1.updated })
    taking env (switch k name guarded a b) v r t h = (h.0, record { taken = h.1.taken; updated = h.1.updated })
    taking env (mode-ends k) v r t h = (each_append Whole env.draft.built.modes (env.draft.mode ∷ []) h.0 (h.1, tt), tt)
    taking env (module-ends k) v r t h = (h.0, tt)
    taking env text-ends v r t h = (h.0, tt)

-- of an accepted text
pub record Drives (M : Module) (mode : Mode) : Type 0 where
  pub taken : Each (Taken M) mode.calls
  pub updated : Each (Updated M) mode.updates

pub modes-drive : (s : List ℕ) → syntax_of s ≡ none → verdict_of s ≡ Fine → Each (Drives (module_of s)) (module_of s).modes
modes-drive s e v =
    let M = module_of s in
    let p = parts-fit s e v in
    let k = rows-clear M (all_rows s) (kinds-are s e v) (rw (last-rows s) at p.rows-typed) (rows-placed s e v) in
    let w = whole s e v (λ q at env. Porting q at env × Taking M s q at env) (λ q p' at next item env c f r h. (porting s (all_rows s) (last_env s) env c f r h.0, taking M s (all_rows s) (last_env s) refl (last-rows s) k p.tasks-fit env c f r h.0 h.1)) ((tt, nothing_yet, (tt, tt)), (tt, tt)) in
    each_map (Whole M) (Drives M) (λ m h. record { taken = h.taken; updated = h.updated }) M.modes w.holds.1.0

-- as many sources as inputs
pub takes-length : (roles kinds inputs sources : List ℕ) → takes roles kinds inputs sources ≡ true → length sources ≡ length inputs
unfolding takes
takes-length roles kinds [] [] h = refl
takes-length roles kinds [] (p ∷ sources) h = let z : ◌≡◌ {A = ℕ} 0 1 = cc in absurd (omega arith)
takes-length roles kinds (w ∷ inputs) [] h = let z : ◌≡◌ {A = ℕ} 0 1 = cc in absurd (omega arith)
takes-length roles kinds (w ∷ inputs) (p ∷ sources) h = ap suc (takes-length roles kinds inputs sources (and_right (is_source roles p && eqb (get_or kinds p 0) w) _ h))
