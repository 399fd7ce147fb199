-- What is known where an item is judged, and that the rules over what the pass holds are the rules of the item.
use Rattle.std.specs.Prelude.{◌≡◌, ℕ, zero, suc, ◌+◌, ◌<◌, ◌≤◌, true, List, [], ◌∷◌, ◌++◌, length, take, ◌==◌, ◌≢◌, nat_eq, slice_index_or, slice_set, refl}
use Rattle.std.proofs.Common.{arith, ap, ◌∙◌, add-zero, get_or-drop}
use Rattle.text.specs.declared.Name.{Name}
use Rattle.text.specs.declared.Port.{Port}
use Rattle.text.specs.declared.State.{State}
use Rattle.text.specs.declared.Item.{Item}
use Rattle.text.specs.declared.Item.TheVariants as I
use Rattle.text.specs.Items.{goes, items_from}
use Rattle.model.specs.Rooms.{activity_room}
use Rattle.refusals.specs.declared.Row.{Row}
use Rattle.refusals.specs.Names.{task_scope, input_sort, no_type, is_port_of, types}
use Rattle.refusals.specs.Refusals.{among}
use Rattle.refusals.specs.Twice.{twice_of}
use Rattle.refusals.specs.Values.{number_of}
use Rattle.refusals.specs.Declarations.{rows_after}
use Rattle.refusals.specs.Ports.{task_named, port_rules, argument_rules}
use Rattle.refusals.specs.Activities.{activities_in, head_rules, invoke_rules, actuator_named, actuator_rules, target_rules}
use Rattle.refusals.specs.Draft.{Draft}
use Rattle.refusals.specs.Rules.{Env, rules}
use Rattle.accepted.specs.Steps.{Does, plain, guarded, Comes, guard-arg, guard-last, invoke-alone, invoke, arg, arg-last, update, switch}
use Rattle.names.specs.Tables.{rows_in}
use Rattle.activities.specs.Kept.{head_checks, call_checks, update_checks, target_checks}
use Rattle.activities.specs.Operands.{pair_of}
use Rattle.noting.specs.declared.Known.{Known}
use Rattle.noting.specs.Known.{one_more}
use Rattle.noting.specs.Laying.{Laid}
use Rattle.noting.specs.Rowed.{Rowed}
use Rattle.noting.specs.Moded.{Holds, holds_more, last-again, calls-many, updates-many, moded-laid}
use Rattle.noting.specs.Drafted.{OperandsWanted, InputsWanted, Asks, Drafted, does-room}
use Rattle.targets.specs.Ahead.{is_target}
use Rattle.targets.specs.AheadLaws.{Late, target_told}

-- the item that stands at a place, what is known before it, and what the pass holds, with what the item acts on laid ready
pub record Meets (s : List ℕ) (all : List Row) (env : Env) (state : State) (at : ℕ) (known : Known) (item : Item) (cells : List ℕ) (n : ℕ) (rates tasks aims : List ℕ) : Type 0 where
  pub rates-before : List ℕ
  pub tasks-before : List ℕ
  pub aims-before : List ℕ
  pub behind : State
  pub next : ℕ
  pub comes : goes item ≡ true → Comes s state at item behind next
  pub within : at ≤ length s
  pub declared : all ≡ rows_after s env.rows (items_from s state at)
  pub rowed : Rowed s env.rows cells n
  pub laid : Laid s env.rows known item rates-before tasks-before aims-before rates tasks aims
  pub drafted : Drafted state env.rows env.draft known rates-before tasks-before aims-before

-- ---- what the state says of the item

does-late : {k : ℕ} {q : State} → Does k q → Late q
does-late plain = tt
does-late guarded = tt

module _ (rows : List Row) (draft : Draft) (known : Known) where
  operand-asked : {s : List ℕ} {q p : State} {at next : ℕ} {port : Port} → Comes s q at (I.GuardArg port) p next → Asks q rows draft known → OperandsWanted draft.doing.wanted known
  operand-asked (guard-arg k port c) h = h.1
  operand-asked (guard-last k port c) h = h.1

  input-asked : {s : List ℕ} {q p : State} {at next : ℕ} {port : Port} → Comes s q at (I.Arg port) p next → Asks q rows draft known → InputsWanted rows draft.doing.wanted known
  input-asked (arg port c) h = h
  input-asked (arg-last port c) h = h

  invoke-asked : {s : List ℕ} {q p : State} {at next : ℕ} {name : Name} {many : ℕ} → Comes s q at (I.Invoke name many) p next → Asks q rows draft known → activities_in draft.mode < activity_room
  invoke-asked (invoke-alone name d) h = does-room rows draft known d h
  invoke-asked (invoke name many d c) h = does-room rows draft known d h

  update-asked : {s : List ℕ} {q p : State} {at next : ℕ} {name : Name} {source : Port} → Comes s q at (I.Update name source) p next → Asks q rows draft known → activities_in draft.mode < activity_room
  update-asked (update name source d) h = does-room rows draft known d h

switch-late : {s : List ℕ} {q p : State} {at next : ℕ} {name : Name} → Comes s q at (I.Switch name) p next → Late q
switch-late (switch k name d a b) = does-late d

-- ---- the rules over what the pass holds

pub pair-first : (left operand : ℕ) → (left ≢ 0) → operand ≡ slice_index_or (pair_of left operand) 0 no_type
pair-first zero operand h = absurd (h refl)
pair-first (suc left) operand h = refl

-- the search for a pair yields the last number's place just where it stands among those before it
again-told : (number : ℕ) {before after : List ℕ} {many : ℕ} {numbers : List ℕ} → after ≡ slice_set before many number → Holds before many numbers → twice_of numbers ≡ length numbers → many < activity_room
    → (twice_of (take (one_more activity_room many) after) == many) ≡ among number numbers
again-told number {before} {after} {many} {numbers} e h once l =
    let more = holds_more number e h l in
    ap (λ (list : List ℕ). nat_eq (twice_of list) many) more.first-are ∙ ap (λ (last : ℕ). nat_eq (twice_of (numbers ++ (number ∷ []))) last) h.many ∙ last-again numbers number once

module _ {s : List ℕ} {all : List Row} {env : Env} {state : State} {at : ℕ} {known : Known} {cells : List ℕ} {n : ℕ} {rates tasks aims : List ℕ} where
  pub head-same : {kind begin : ℕ} {digits : Name} (m : Meets s all env state at known (I.Activity kind begin digits) cells n rates tasks aims)
      → head_checks known.activities known.period (take known.calls rates) kind begin (number_of s digits) digits ≡ rules s all env (I.Activity kind begin digits)
  unfolding head_checks head_rules
  head-same m =
      let l = m.laid in
      let b = moded-laid m.drafted.mode l.rate l.task l.aim l.rated l.tasked l.aimed in
      rw (b.has, b.lasts, b.held-rates.first-are)

  pub operand_same : {port : Port} (m : Meets s all env state at known (I.GuardArg port) cells n rates tasks aims)
      → argument_rules s (rows_in cells n) (slice_index_or (pair_of known.left known.operand) 0 no_type) port ≡ rules s all env (I.GuardArg port)
  operand_same m =
      let w = operand-asked env.rows env.draft known (m.comes refl) m.drafted.asks in
      rw (m.rowed.same, w.pair)

  pub input-same : {port : Port} (m : Meets s all env state at known (I.Arg port) cells n rates tasks aims)
      → port_rules s (rows_in cells n) (slice_index_or (types (is_port_of (task_scope known.task) input_sort) (rows_in cells n)) known.index no_type) port ≡ rules s all env (I.Arg port)
  input-same m =
      let w = input-asked env.rows env.draft known (m.comes refl) m.drafted.asks in
      rw (m.rowed.same, w.inputs, get_or-drop known.index (types (is_port_of (task_scope known.task) input_sort) env.rows) 0 no_type, add-zero known.index)

  pub call_same : {name : Name} {many : ℕ} (m : Meets s all env state at known (I.Invoke name many) cells n rates tasks aims)
      → call_checks (rows_in cells n) (twice_of (take (one_more activity_room known.calls) tasks) == known.calls) (task_named s (rows_in cells n) name) name many ≡ rules s all env (I.Invoke name many)
  unfolding call_checks invoke_rules
  call_same {name} {many} m =
      let d = m.drafted.mode in
      let room = invoke-asked env.rows env.draft known (m.comes refl) m.drafted.asks in
      let again = again-told m.laid.task m.laid.tasked d.held-tasks d.tasks-once (omega (arith, calls-many d, room)) in
      rw (m.rowed.same, again, (m.laid.invokes name many refl).1)

  pub update_same : {name : Name} {source : Port} (m : Meets s all env state at known (I.Update name source) cells n rates tasks aims)
      → update_checks (twice_of (take (one_more activity_room known.updates) aims) == known.updates) (actuator_named s (rows_in cells n) name) name ++ port_rules s (rows_in cells n) (actuator_named s (rows_in cells n) name).typ source
      ≡ rules s all env (I.Update name source)
  unfolding update_checks actuator_rules
  update_same {name} {source} m =
      let d = m.drafted.mode in
      let room = update-asked env.rows env.draft known (m.comes refl) m.drafted.asks in
      let again = again-told m.laid.aim m.laid.aimed d.held-aims d.aims-once (omega (arith, updates-many d, room)) in
      rw (m.rowed.same, again, m.laid.updates name source refl)

  pub switch-same : {name : Name} (m : Meets s all env state at known (I.Switch name) cells n rates tasks aims)
      → target_checks (is_target s (rows_in cells n) (items_from s state at) name) name ≡ rules s all env (I.Switch name)
  unfolding target_checks target_rules
  switch-same {name} m = rw (m.rowed.same, m.declared, target_told s env.rows state at name m.within (switch-late (m.comes refl)) m.rowed.sorted)
