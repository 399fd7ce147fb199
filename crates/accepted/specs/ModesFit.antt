-- The modes of an accepted text: slots that fit, no task twice, no switch amid a task, references in range.
use Rattle.std.specs.Prelude.{ℕ, ◌≤◌, ◌<◌, ◌≡◌, refl, List, [], ◌∷◌, ◌++◌, false, length}
use Rattle.std.proofs.Common.{arith, ap, length-append}
use Rattle.std.proofs.Math.Bool.{true}
use Rattle.std.proofs.Math.Option.{none, some}
use Rattle.model.specs.Rooms.{period_room}
use Rattle.model.specs.Modules.{Module, Mode, Act, Call, Update}
use Rattle.model.specs.declared.Guard.{Guard}
use Rattle.text.specs.declared.Name.{Name}
use Rattle.text.specs.declared.Port.{Port}
use Rattle.text.specs.declared.State.{State}
use Rattle.text.specs.declared.State.TheVariants as Q
use Rattle.text.specs.declared.Item.{Item}
use Rattle.text.specs.declared.Item.TheVariants as I
use Rattle.text.specs.Items.{syntax_of}
use Rattle.timing.specs.SlotLaws.{Each}
use Rattle.timing.specs.SlotFits.{Divides, divided-clears}
use Rattle.timing.specs.Accepted.{ports, Distinct, Leads, Guarded, UpdateFits}
use Rattle.refusals.specs.declared.Row.{Row}
use Rattle.refusals.specs.Verdicts.{Fine}
use Rattle.refusals.specs.Checks.{first}
use Rattle.refusals.specs.ChecksLaws.{fine-parts, fine-one}
use Rattle.refusals.specs.Names.{module_scope, actuator_sort, task_sort, mode_sort, is_known}
use Rattle.refusals.specs.Refusals.{among}
use Rattle.refusals.specs.Values.{number_of}
use Rattle.refusals.specs.Declarations.{new_rules}
use Rattle.refusals.specs.Ports.{task_named, port_rules}
use Rattle.refusals.specs.Activities.{start_rules, period_rules, switch_kind, invoked_in, invoke_rules, actuator_named, actuator_rules, mode_named, target_rules}
use Rattle.refusals.specs.Draft.{Draft, guard_of, guard_number, last_sourced, with_call, with_update, with_switch, with_source, acting}
use Rattle.refusals.specs.Rules.{Env, grow, rules, wanted_next}
use Rattle.refusals.specs.Texts.{verdict_of, module_of}
use Rattle.accepted.specs.Steps.{plain, guarded, Comes, module-begins, module-section, constant, sensor, actuator, task-begins, task-section, input, output, task-ends, mode-begins, mode-section, activity, guard-alone, guard, guard-arg, guard-last, invoke-alone, invoke, arg, arg-last, update, switch, mode-ends, module-ends, text-ends}
use Rattle.accepted.specs.Folds.{Reaches, whole, all_rows, last_env, last-rows}
use Rattle.accepted.specs.Lists.{each_append, each_map, each_none, and-false}
use Rattle.accepted.specs.RowsFit.{rows_fit}
use Rattle.accepted.specs.Tallies.{rows-tallied}
use Rattle.accepted.specs.Known.{Within, all-within, rows-within, value-below, port-in}
use Rattle.accepted.specs.GuardRoom.{guards-grow}
use Rattle.accepted.specs.Acts.{period-range, Heads, head-fine, guard-below, distinct_append, each-sourced, distinct-sourced, all-divided}

module _ (M : Module) where
  pub record CallOk (period : ℕ) (call : Act Call) : Type 0 where
    pub whole : Divides call.frequency period
    pub guard-in : Guarded M call
    pub task-in : call.what.task < length M.tasks
    pub sources-in : Each (λ p. p < ports M) call.what.sources

  pub record ModeOk (mode : Mode) : Type 0 where
    pub lasts : 0 < mode.period
    pub short : mode.period ≤ period_room
    pub calls-ok : Each (CallOk mode.period) mode.calls
    pub updates-ok : Each (UpdateFits M) mode.updates
    pub guards-ok : Each (λ (a : Act ℕ). Guarded M a) mode.switches
    pub distinct : Distinct mode.calls
    pub leads : Each (Leads mode.period (length M.modes) mode.calls) mode.switches

  -- in section k of a mode: switches come last
  pub record Section (k : ℕ) (mode : Mode) : Type 0 where
    pub ok : ModeOk mode
    pub no_switch : k < 4 → mode.switches ≡ []
    pub from_one : 1 ≤ k
    pub to-four : k ≤ 4

  -- behind an activity's head
  pub record Headed (k : ℕ) (mode : Mode) (frequency : ℕ) : Type 0 where
    pub section : Section k mode
    pub heads : Heads mode k frequency
    pub not-one : k ≡ 1 → ⊥

  abbrev ModeIn : State → Draft → Type 0
  ModeIn Q.Begin draft = Unit {0}
  ModeIn (Q.Module k) draft = Unit {0}
  ModeIn (Q.Task k) draft = Unit {0}
  ModeIn (Q.Mode k) draft = Section k draft.mode
  ModeIn (Q.Act k) draft = Headed k draft.mode draft.doing.frequency
  ModeIn (Q.Guarded k) draft = Headed k draft.mode draft.doing.frequency
  ModeIn (Q.GuardArgs k) draft = Headed k draft.mode draft.doing.frequency
  ModeIn Q.Args draft = Section 2 draft.mode
  ModeIn Q.Finish draft = Unit {0}

  abbrev pub Moding : State → ℕ → Env → Type 0
  Moding q at env = Each ModeOk env.draft.built.modes × ModeIn q env.draft

  -- ---- one activity more

  with_call_lem : (mode : Mode) (call : Act Call) → Section 2 mode → CallOk mode.period call → among call.what.task (invoked_in mode) ≡ false → Section 2 (with_call mode call)
  with_call_lem mode call h c e =
      let o = h.ok in
      record {
        ok = record {
          lasts = o.lasts;
          short = o.short;
          calls-ok = each_append (CallOk mode.period) mode.calls (call ∷ []) o.calls-ok (c, tt);
          updates-ok = o.updates-ok;
          guards-ok = o.guards-ok;
          distinct = distinct_append call mode.calls o.distinct e;
          leads = each_none (Leads mode.period (length M.modes) (mode.calls ++ (call ∷ []))) mode.switches (h.no_switch (omega arith));
        };
        no_switch = h.no_switch;
        from_one = h.from_one;
        to-four = h.to-four;
      }

  with-source : (mode : Mode) (source : ℕ) → Section 2 mode → source < ports M → Section 2 (with_source mode source)
  with-source mode source h l =
      let o = h.ok in
      record {
        ok = record {
          lasts = o.lasts;
          short = o.short;
          calls-ok = each-sourced source (CallOk mode.period) (λ c k. record { whole = k.whole; guard-in = k.guard-in; task-in = k.task-in; sources-in = each_append (λ p. p < ports M) c.what.sources (source ∷ []) k.sources-in (l, tt) }) mode.calls o.calls-ok;
          updates-ok = o.updates-ok;
          guards-ok = o.guards-ok;
          distinct = distinct-sourced source mode.calls o.distinct;
          leads = each_none (Leads mode.period (length M.modes) (last_sourced source mode.calls)) mode.switches (h.no_switch (omega arith));
        };
        no_switch = h.no_switch;
        from_one = h.from_one;
        to-four = h.to-four;
      }

  with-update : (mode : Mode) (act : Act Update) → Section 3 mode → UpdateFits M act → Section 3 (with_update mode act)
  with-update mode act h u =
      let o = h.ok in
      record {
        ok = record {
          lasts = o.lasts;
          short = o.short;
          calls-ok = o.calls-ok;
          updates-ok = each_append (UpdateFits M) mode.updates (act ∷ []) o.updates-ok (u, tt);
          guards-ok = o.guards-ok;
          distinct = o.distinct;
          leads = o.leads;
        };
        no_switch = h.no_switch;
        from_one = h.from_one;
        to-four = h.to-four;
      }

  with-switch : (k : ℕ) (mode : Mode) (act : Act ℕ) → Section k mode → Guarded M act → Leads mode.period (length M.modes) mode.calls act → Section 4 (with_switch mode act)
  with-switch k mode act h g l =
      let o = h.ok in
      record {
        ok = record {
          lasts = o.lasts;
          short = o.short;
          calls-ok = o.calls-ok;
          updates-ok = o.updates-ok;
          guards-ok = each_append (λ (a : Act ℕ). Guarded M a) mode.switches (act ∷ []) o.guards-ok (g, tt);
          distinct = o.distinct;
          leads = each_append (Leads mode.period (length M.modes) mode.calls) mode.switches (act ∷ []) o.leads (l, tt);
        };
        no_switch = λ n. absurd (omega arith);
        from_one = omega arith;
        to-four = omega arith;
      }

  clear_of : (mode : Mode) (act : Act ℕ) → ModeOk mode → Heads mode switch_kind act.frequency → act.what < length M.modes → Leads mode.period (length M.modes) mode.calls act
  clear_of mode act o hd l =
      record {
        target = l;
        clear = divided-clears mode.period act hd.whole mode.calls (all-divided act.frequency mode.period mode.calls (each_map (CallOk mode.period) (λ c. Divides c.frequency mode.period) (λ c k. k.whole) mode.calls o.calls-ok) (hd.apart refl));
      }

  module _ (s : List ℕ) (all : List Row) (last : Env) (same : last.rows ≡ all) (within : Each (Within M) all) (guards : length last.draft.built.guards ≤ length M.guards) where
    -- the guard of what is done
    acts-guarded : (env next : Env) → Reaches s all last next → next.draft.built.guards ≡ env.draft.built.guards ++ guard_of env.draft.doing.function env.draft.doing.operands
        → (g : ℕ) → guard_number env.draft.doing.function (length env.draft.built.guards) ≡ some g → g < length M.guards
    acts-guarded env next r e =
        let l = guards-grow next r in
        let n = length-append env.draft.built.guards (guard_of env.draft.doing.function env.draft.doing.operands) in
        let q = ap (λ (gs : List Guard). length gs) e in
        guard-below env.draft.doing.function env.draft.doing.operands (length env.draft.built.guards) (length M.guards) (omega (arith, guards, l, n, q))

    invoke-fine : (rows : List Row) (mode : Mode) (name : Name) (many : ℕ) → Each (Within M) rows → first (invoke_rules rows mode (task_named s rows name) name many) ≡ Fine
        → ((task_named s rows name).value < length M.tasks) × (among (task_named s rows name).value (invoked_in mode) ≡ false)
    unfolding invoke_rules
    invoke-fine rows mode name many known v =
        let w = fine-one _ _ (fine-one _ _ v).1 in
        let (l, q) = value-below M s rows known module_scope task_sort name w.0 in
        let k : is_known (task_named s rows name) ≡ true = rw q in
        (l, and-false _ _ k (fine-one _ _ (fine-one _ _ w.1).1).0)

    actuator-fine : (rows : List Row) (mode : Mode) (name : Name) → Each (Within M) rows → first (actuator_rules mode (actuator_named s rows name) name) ≡ Fine → (actuator_named s rows name).value < ports M
    unfolding actuator_rules
    actuator-fine rows mode name known v = (value-below M s rows known module_scope actuator_sort name (fine-one _ _ (fine-one _ _ v).1).0).0

    target-fine : (name : Name) → first (target_rules (mode_named s all name) name) ≡ Fine → (mode_named s all name).value < length M.modes
    unfolding target_rules
    target-fine name v = (value-below M s all within module_scope mode_sort name (fine-one _ _ (fine-one _ _ v).1).0).0

    invoked : (env : Env) (name : Name) (many : ℕ) → first (rules s all env (I.Invoke name many)) ≡ Fine → Reaches s all last (grow s all env (I.Invoke name many)) → Headed 2 env.draft.mode env.draft.doing.frequency → Section 2 (grow s all env (I.Invoke name many)).draft.mode
    invoked env name many v r h =
        let known = rows-within M env (I.Invoke name many) same within r in
        let (l, e) = invoke-fine env.rows env.draft.mode name many known v in
        with_call_lem env.draft.mode _ h.section (record { whole = h.heads.whole; guard-in = acts-guarded env (grow s all env (I.Invoke name many)) r refl; task-in = l; sources-in = tt }) e

    updated : (env : Env) (name : Name) (source : Port) → first (rules s all env (I.Update name source)) ≡ Fine → Reaches s all last (grow s all env (I.Update name source)) → Headed 3 env.draft.mode env.draft.doing.frequency → Section 3 (grow s all env (I.Update name source)).draft.mode
    updated env name source v r h =
        let known = rows-within M env (I.Update name source) same within r in
        let row = actuator_named s env.rows name in
        let (v0, v1) = fine-parts (actuator_rules env.draft.mode row name) (port_rules s env.rows row.typ source) v in
        with-update env.draft.mode _ h.section (record { guard = acts-guarded env (grow s all env (I.Update name source)) r refl; source = (port-in M s env.rows known row.typ source v1).0; target = actuator-fine env.rows env.draft.mode name known v0 })

    switched : (env : Env) (k : ℕ) (name : Name) → (k ≡ 2 → ⊥) → (k ≡ 3 → ⊥) → first (rules s all env (I.Switch name)) ≡ Fine → Reaches s all last (grow s all env (I.Switch name)) → Headed k env.draft.mode env.draft.doing.frequency → Section 4 (grow s all env (I.Switch name)).draft.mode
    switched env k name a b v r h =
        let one = h.not-one in
        let lo = h.section.from_one in
        let hi = h.section.to-four in
        let four : k ≡ 4 = omega arith in
        let act = acting env.draft (mode_named s all name).value in
        let hd : Heads env.draft.mode switch_kind env.draft.doing.frequency = rw four at h.heads in
        with-switch k env.draft.mode act h.section (acts-guarded env (grow s all env (I.Switch name)) r refl) (clear_of env.draft.mode act h.section.ok hd (target-fine name v))

    argued : (env : Env) (port : Port) → first (rules s all env (I.Arg port)) ≡ Fine → Reaches s all last (grow s all env (I.Arg port)) → Section 2 env.draft.mode → Section 2 (grow s all env (I.Arg port)).draft.mode
    argued env port v r h = with-source env.draft.mode _ h (port-in M s env.rows (rows-within M env (I.Arg port) same within r) (wanted_next env) port v).0

    begun : (mode : Mode) → (0 < mode.period) × (mode.period ≤ period_room) → mode.calls ≡ [] → mode.updates ≡ [] → mode.switches ≡ [] → Section 1 mode
    begun mode p c u w =
        record {
          ok = record {
            lasts = p.0;
            short = p.1;
            calls-ok = each_none (CallOk mode.period) mode.calls c;
            updates-ok = each_none (UpdateFits M) mode.updates u;
            guards-ok = each_none (λ (a : Act ℕ). Guarded M a) mode.switches w;
            distinct = rw c tt;
            leads = each_none (Leads mode.period (length M.modes) mode.calls) mode.switches w;
          };
          no_switch = λ l. w;
          from_one = omega arith;
          to-four = omega arith;
        }

    moding : {q p : State} {at next : ℕ} {item : Item} (env : Env) → Comes s q at item p next → first (rules s all env item) ≡ Fine → Reaches s all last (grow s all env item) → Moding q at env → Moding p next (grow s all env item)
    moding env (module-begins name) v r h = (h.0, tt)
    moding env (module-section k w l b) v r h = (h.0, tt)
    moding env (constant name value) v r h = (h.0, tt)
    moding env (sensor typ name getter) v r h = (h.0, tt)
    moding env (actuator typ name value setter) v r h = (h.0, tt)
    moding env (task-begins k name l) v r h = (h.0, tt)
    moding env (task-section k w l) v r h = h
    moding env (input typ name) v r h = (h.0, tt)
    moding env (output typ name value) v r h = (h.0, tt)
    moding env (task-ends k name) v r h = (h.0, tt)
    moding env (mode-begins k start begin name digits milli l) v r h = (h.0, begun _ (period-range s digits milli (fine-parts (new_rules s env.rows mode_sort name) (period_rules s digits milli) (fine-parts (start_rules env.draft.started start begin) _ v).1).1) refl refl refl)
    moding env (mode-section k w l b) v r h = (h.0, record { ok = h.1.ok; no_switch = λ n. h.1.no_switch (omega (arith, l, n)); from_one = omega (arith, l, h.1.from_one); to-four = b })
    moding env (activity k begin digits l) v r h = (h.0, record { section = h.1; heads = head-fine env.draft.mode k begin (number_of s digits) digits h.1.ok.lasts v; not-one = l })
    moding env (guard-alone k name) v r h = h
    moding env (guard k name many c) v r h = h
    moding env (guard-arg k port c) v r h = h
    moding env (guard-last k port c) v r h = h
    moding env (invoke-alone name plain) v r h = (h.0, invoked env name 0 v r h.1)
    moding env (invoke-alone name guarded) v r h = (h.0, invoked env name 0 v r h.1)
    moding env (invoke name many plain c) v r h = (h.0, invoked env name many v r h.1)
    moding env (invoke name many guarded c) v r h = (h.0, invoked env name many v r h.1)
    moding env (arg port c) v r h = (h.0, argued env port v r h.1)
    moding env (arg-last port c) v r h = (h.0, argued env port v r h.1)
    moding env (update name source plain) v r h = (h.0, updated env name source v r h.1)
    moding env (update name source guarded) v r h = (h.0, updated env name source v r h.1)
    moding env (switch k name plain a b) v r h = (h.0, switched env k name a b v r h.1)
    moding env (switch k name guarded a b) v r h = (h.0, switched env k name a b v r h.1)
    moding env (mode-ends k) v r h = (each_append ModeOk env.draft.built.modes (env.draft.mode ∷ []) h.0 (h.1.ok, tt), tt)
    moding env (module-ends k) v r h = (h.0, tt)
    moding env text-ends v r h = (h.0, tt)

pub modes-ok : (s : List ℕ) → syntax_of s ≡ none → verdict_of s ≡ Fine → Each (ModeOk (module_of s)) (module_of s).modes
modes-ok s e v =
    let M = module_of s in
    let k = all-within M (all_rows s) (rows_fit s e v) (rows-tallied s e v) in
    let w = whole s e v (Moding M) (λ q p at next item. moding M s (all_rows s) (last_env s) (last-rows s) k (omega arith)) (tt, tt) in
    w.holds.0
