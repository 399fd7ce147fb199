-- What the pass knows in step with the module so far, item by item, as long as no rule is broken.
use Rattle.std.specs.Prelude.{ℕ, suc, ◌+◌, ◌-◌, ◌≤◌, ◌<◌, min, ◌≡◌, refl, List, [], ◌∷◌, ◌++◌, Bool, false, cond, ◌&&◌, ltb, length, drop}
use Rattle.std.proofs.Common.{arith, sym, ap, ◌∙◌, append-nil, drop_of_length-le, drop-drop}
use Rattle.std.proofs.Math.Bool.{true}
use borrow.Author.Tests.{eq-eqb, ltb-false, leb-false, not-false}
use Rattle.std.proofs.Math.Dec.{eqb}
use Rattle.text.specs.declared.Name.{Name}
use Rattle.text.specs.declared.State.{State}
use Rattle.text.specs.declared.State.TheVariants as Q
use Rattle.text.specs.declared.Item.{Item}
use Rattle.text.specs.declared.Item.TheVariants as I
use Rattle.model.specs.Rooms.{activity_room, frequency_room}
use Rattle.model.specs.Values.{function_by, operands_of}
use Rattle.model.specs.declared.Function.{Function}
use Rattle.model.specs.declared.Function.TheVariants.{IsTrue, IsFalse, Less, Equal}
use Rattle.model.specs.Modules.{Mode, Call, Update}
use Rattle.refusals.specs.declared.Row.{Row}
use Rattle.refusals.specs.Verdicts.{Fine}
use Rattle.refusals.specs.Checks.{first}
use Rattle.refusals.specs.ChecksLaws.{fine-parts, fine-one}
use Rattle.refusals.specs.Names.{letters, module_scope, task_scope, task_sort, actuator_sort, mode_sort, input_sort, is_known, is_port_of, count, types}
use Rattle.refusals.specs.NamesLaws.{types-count}
use Rattle.refusals.specs.Refusals.{among}
use Rattle.refusals.specs.Values.{number_of}
use Rattle.refusals.specs.Declarations.{declares, new_rules}
use Rattle.refusals.specs.Ports.{task_named, port_named, argument_named}
use Rattle.refusals.specs.Activities.{period_at, start_rules, activities_in, invoked_in, updated_in, head_rules, function_named, guard_rules, guard_types, types_left, inputs_of, input_types, invoke_rules, actuator_named, actuator_rules, mode_named}
use Rattle.refusals.specs.Draft.{Draft, acting, drafted}
use Rattle.refusals.specs.Rules.{Env, rules}
use Rattle.accepted.specs.Lists.{and-false}
use Rattle.accepted.specs.Acts.{in-range}
use Rattle.accepted.specs.RowsFit.{RowFits, RowsFit, named_in}
use Rattle.accepted.specs.GuardsFit.{guard_number}
use Rattle.accepted.specs.Steps.{Does, plain, guarded, Comes, module-begins, module-section, constant, sensor, actuator, task-begins, task-section, input, output, task-ends, mode-begins, mode-section, activity, guard-alone, guard, guard-arg, guard-last, invoke-alone, invoke, arg, arg-last, update, switch, mode-ends, module-ends, text-ends}
use Rattle.activities.specs.Operands.{operand_type, pair_of, operands-pair, pair_left}
use Rattle.noting.specs.declared.Known.{Known}
use Rattle.noting.specs.Known.{nothing_known, one_more, row_room, noted_by}
use Rattle.noting.specs.Laying.{Laid}
use Rattle.noting.specs.Moded.{Moded, moded-laid, moded-call, moded-update, moded-switch, moded-source, moded-begun, period-whole}

-- the types that a guard's operands must have, by one type and their number
pub record OperandsWanted (wanted : List ℕ) (known : Known) : Type 0 where
  pub few : known.left ≤ 2
  pub pair : wanted ≡ pair_of known.left known.operand

-- the types that a task's arguments must have, by the task and the number of the next
pub record InputsWanted (rows : List Row) (wanted : List ℕ) (known : Known) : Type 0 where
  pub inputs : wanted ≡ drop known.index (types (is_port_of (task_scope known.task) input_sort) rows)

-- what is known in a state of the reading: inside an activity that there is room for it, and before an argument which type it must have
abbrev pub Asks : State → List Row → Draft → Known → Type 0
Asks Q.Begin rows draft known = Unit {0}
Asks (Q.Module k) rows draft known = Unit {0}
Asks (Q.Task k) rows draft known = Unit {0}
Asks (Q.Mode k) rows draft known = Unit {0}
Asks (Q.Act k) rows draft known = activities_in draft.mode < activity_room
Asks (Q.Guarded k) rows draft known = activities_in draft.mode < activity_room
Asks (Q.GuardArgs k) rows draft known = (activities_in draft.mode < activity_room) × OperandsWanted draft.doing.wanted known
Asks Q.Args rows draft known = InputsWanted rows draft.doing.wanted known
Asks Q.Finish rows draft known = Unit {0}

-- whether a start mode was seen, the frequency of the activity, the mode, and what the state asks for
pub record Drafted (state : State) (rows : List Row) (draft : Draft) (known : Known) (rates tasks aims : List ℕ) : Type 0 where
  pub started : known.started ≡ draft.started
  pub frequency : known.frequency ≡ draft.doing.frequency
  pub mode : Moded draft.mode known.period known.activities known.calls known.updates rates tasks aims
  pub asks : Asks state rows draft known

pub does-room : {k : ℕ} {q : State} (rows : List Row) (draft : Draft) (known : Known) → Does k q → Asks q rows draft known → activities_in draft.mode < activity_room
does-room rows draft known plain h = h
does-room rows draft known guarded h = h

-- ---- what a kept rule says

head-fine : (mode : Mode) (kind at number : ℕ) (digits : Name) → first (head_rules mode kind at number digits) ≡ Fine → (activities_in mode < activity_room) × (min number 4294967296 ≡ number)
unfolding head_rules
head-fine mode kind at number digits v =
    let w = fine-one _ _ v in
    let r = in-range frequency_room number (fine-one _ _ w.1).0 in
    (leb-false activity_room (activities_in mode) w.0, omega (arith, r.1))

module _ (s : List ℕ) (rows : List Row) (fits : RowsFit rows) (mode : Mode) (name : Name) where
  call-fine : (arguments : ℕ) → first (invoke_rules rows mode (task_named s rows name) name arguments) ≡ Fine
      → (among (task_named s rows name).value (invoked_in mode) ≡ false) × (input_types rows (task_named s rows name) arguments ≡ types (inputs_of (task_named s rows name)) rows)
  unfolding invoke_rules
  call-fine arguments v =
      let row = task_named s rows name in
      let w = fine-one _ _ (fine-one _ _ v).1 in
      let u = fine-one _ _ w.1 in
      let is = (named_in (RowFits rows) s rows module_scope task_sort name fits w.0).1 in
      let k : is_known row ≡ true = rw is in
      let n = not-false (eqb (count (inputs_of row) rows) arguments) (and-false _ _ k u.0) in
      let b : (is_known row && eqb (count (inputs_of row) rows) arguments) ≡ true = rw (k, n) in
      (and-false _ _ k (fine-one _ _ u.1).0, rw b)

  update-fine : first (actuator_rules mode (actuator_named s rows name) name) ≡ Fine → among (actuator_named s rows name).value (updated_in mode) ≡ false
  unfolding actuator_rules
  update-fine v =
      let w = fine-one _ _ (fine-one _ _ v).1 in
      let is = (named_in (RowFits rows) s rows module_scope actuator_sort name fits w.0).1 in
      let k : is_known (actuator_named s rows name) ≡ true = rw is in
      and-false _ _ k (fine-one _ _ w.1).0

few-operands : (function : Function) → operands_of function ≤ 2
few-operands IsTrue = omega arith
few-operands IsFalse = omega arith
few-operands Less = omega arith
few-operands Equal = omega arith

guard-wants : (number : ℕ) (name : Name) (arguments : ℕ) → first (guard_rules number name arguments) ≡ Fine → guard_types number arguments ≡ pair_of (operands_of (function_by number)) (operand_type (function_by number))
guard-wants number name arguments v =
    let w = guard_number number name arguments v in
    let b : (ltb number 4 && eqb (operands_of (function_by number)) arguments) ≡ true = rw (w.0, eq-eqb _ _ w.1) in
    rw b (operands-pair (function_by number))

count-few : (test : Row → Bool) (rows : List Row) → count test rows ≤ length rows
unfolding count
count-few test [] = omega arith
count-few test (row ∷ rows) = by (test row) (count-few test rows)
  where
    by : (b : Bool) → count test rows ≤ length rows → cond b (count test rows + 1) (count test rows) ≤ suc (length rows)
    by true h = omega arith
    by false h = omega arith

-- behind an argument the rest is wanted
next-input : (test : Row → Bool) (rows : List Row) (index : ℕ) → length rows ≤ row_room → drop 1 (drop index (types test rows)) ≡ drop (one_more row_room index) (types test rows)
next-input test rows index h = by (ltb index row_room) refl
  where
    by : (b : Bool) → ltb index row_room ≡ b → drop 1 (drop index (types test rows)) ≡ drop (cond b (index + 1) index) (types test rows)
    by true e = drop-drop 1 index (types test rows)
    by false e =
        let l = ltb-false index row_room e in
        let z = drop_of_length-le (types test rows) {i = index} (omega (arith, types-count test rows, count-few test rows, l, h)) in
        rw z

-- ---- item by item

module _ (s : List ℕ) (all : List Row) (env : Env) (known : Known) (rates tasks aims rates_then tasks_then aims_then : List ℕ) where
  -- what an item acts on is laid ready
  abbrev Laying : Item → Type 0
  Laying item = Laid s env.rows known item rates tasks aims rates_then tasks_then aims_then

  -- what is known before an item, and behind it
  abbrev Before : State → Type 0
  Before q = Drafted q env.rows env.draft known rates tasks aims

  abbrev Behind : State → Item → Type 0
  Behind p item = Drafted p (env.rows ++ declares s env.rows item) (drafted s all env.rows env.draft item) (noted_by s env.rows known item) rates_then tasks_then aims_then

  kept-mode : {q : State} {item : Item} → Laying item → Before q → Moded env.draft.mode known.period known.activities known.calls known.updates rates_then tasks_then aims_then
  kept-mode l d = moded-laid d.mode l.rate l.task l.aim l.rated l.tasked l.aimed

  module _ (name : Name) (many : ℕ) {q : State} (v : first (rules s all env (I.Invoke name many)) ≡ Fine) (fits : RowsFit env.rows) (l : Laying (I.Invoke name many)) (d : Before q) (room : activities_in env.draft.mode < activity_room) where
    invoked-mode : Moded (drafted s all env.rows env.draft (I.Invoke name many)).mode known.period (one_more activity_room known.activities) (one_more activity_room known.calls) known.updates rates_then tasks_then aims_then
    invoked-mode =
        let row = task_named s env.rows name in
        let is = l.invokes name many refl in
        moded-call d.mode l.rate l.task l.aim l.rated l.tasked l.aimed
        (acting {A = Call} env.draft (record { task = row.value; sources = [] })) (sym (is.0 ∙ d.frequency)) (sym is.1) room (rw is.1 (call-fine s env.rows fits env.draft.mode name many v).0)

    invoked-wants : InputsWanted (env.rows ++ []) (input_types env.rows (task_named s env.rows name) many) (noted_by s env.rows known (I.Invoke name many))
    invoked-wants = record { inputs = rw (append-nil env.rows) (call-fine s env.rows fits env.draft.mode name many v).1 }

  pub drafted-on : {q p : State} {at next : ℕ} {item : Item} → Comes s q at item p next → first (rules s all env item) ≡ Fine → length env.rows ≤ row_room → RowsFit env.rows → Laying item → Before q → Behind p item
  drafted-on (module-begins name) v h f l d = record { started = d.started; frequency = d.frequency; mode = kept-mode l d; asks = tt }
  drafted-on (module-section k w low b) v h f l d = record { started = d.started; frequency = d.frequency; mode = kept-mode l d; asks = tt }
  drafted-on (constant name value) v h f l d = record { started = d.started; frequency = d.frequency; mode = kept-mode l d; asks = tt }
  drafted-on (sensor typ name getter) v h f l d = record { started = d.started; frequency = d.frequency; mode = kept-mode l d; asks = tt }
  drafted-on (actuator typ name value setter) v h f l d = record { started = d.started; frequency = d.frequency; mode = kept-mode l d; asks = tt }
  drafted-on (task-begins k name low) v h f l d = record { started = d.started; frequency = d.frequency; mode = kept-mode l d; asks = tt }
  drafted-on (task-section k w low) v h f l d = record { started = d.started; frequency = d.frequency; mode = kept-mode l d; asks = tt }
  drafted-on (input typ name) v h f l d = record { started = d.started; frequency = d.frequency; mode = kept-mode l d; asks = tt }
  drafted-on (output typ name value) v h f l d = record { started = d.started; frequency = d.frequency; mode = kept-mode l d; asks = tt }
  drafted-on (task-ends k name) v h f l d = record { started = d.started; frequency = d.frequency; mode = kept-mode l d; asks = tt }
  drafted-on (mode-begins k start begin name digits milli low) v h f l d =
      let w = (fine-parts (new_rules s env.rows mode_sort name) _ (fine-parts (start_rules env.draft.started start begin) _ v).1).1 in
      let m = kept-mode l d in
      record {
        started = rw d.started;
        frequency = d.frequency;
        mode = moded-begun (letters s name) start (period_at s digits milli) _ _ _ _ (period-whole s digits milli w) m.held-rates.long m.held-tasks.long m.held-aims.long;
        asks = tt;
      }
  drafted-on (mode-section k w low b) v h f l d = record { started = d.started; frequency = d.frequency; mode = kept-mode l d; asks = tt }
  drafted-on (activity k begin digits low) v h f l d =
      let w = head-fine env.draft.mode k begin (number_of s digits) digits v in
      record { started = d.started; frequency = w.1; mode = kept-mode l d; asks = w.0 }
  drafted-on (guard-alone k name) v h f l d = record { started = d.started; frequency = d.frequency; mode = kept-mode l d; asks = d.asks }
  drafted-on (guard k name many c) v h f l d =
      let f = function_by (function_named s name) in
      record { started = d.started; frequency = d.frequency; mode = kept-mode l d; asks = (d.asks, record { few = few-operands f; pair = guard-wants (function_named s name) name many v }) }
  drafted-on (guard-arg k port c) v h f l d =
      let w = d.asks.1 in
      let type = (argument_named s env.rows port).typ in
      record { started = d.started; frequency = d.frequency; mode = kept-mode l d; asks = (d.asks.0, record { few = omega (arith, w.few); pair = ap (types_left type) w.pair ∙ pair_left type known.operand known.left w.few }) }
  drafted-on (guard-last k port c) v h f l d = record { started = d.started; frequency = d.frequency; mode = kept-mode l d; asks = d.asks.0 }
  drafted-on (invoke-alone name does) v h f l d = record { started = d.started; frequency = d.frequency; mode = invoked-mode name 0 v f l d (does-room env.rows env.draft known does d.asks); asks = tt }
  drafted-on (invoke name many does c) v h f l d =
      let room = does-room env.rows env.draft known does d.asks in
      record { started = d.started; frequency = d.frequency; mode = invoked-mode name many v f l d room; asks = invoked-wants name many v f l d room }
  drafted-on (arg port c) v h f l d =
      let test = is_port_of (task_scope known.task) input_sort in
      record {
        started = d.started;
        frequency = d.frequency;
        mode = moded-source (port_named s env.rows port).value (kept-mode l d);
        asks = record { inputs = rw (append-nil env.rows) (ap (drop 1) d.asks.inputs ∙ next-input test env.rows known.index h) };
      }
  drafted-on (arg-last port c) v h f l d = record { started = d.started; frequency = d.frequency; mode = moded-source (port_named s env.rows port).value (kept-mode l d); asks = tt }
  drafted-on (update name source does) v h f l d =
      let row = actuator_named s env.rows name in
      let is : l.aim ≡ row.value = l.updates name source refl in
      record {
        started = d.started;
        frequency = d.frequency;
        mode =
            moded-update d.mode l.rate l.task l.aim l.rated l.tasked l.aimed
            (acting {A = Update} env.draft (record { source = (port_named s env.rows source).value; target = row.value })) (sym is)
            (does-room env.rows env.draft known does d.asks) (rw is (update-fine s env.rows f env.draft.mode name (fine-parts _ _ v).0));
        asks = tt;
      }
  drafted-on (switch k name does a b) v h f l d =
      let mode = moded-switch d.mode l.rate l.task l.aim l.rated l.tasked l.aimed (acting {A = ℕ} env.draft (mode_named s all name).value) (does-room env.rows env.draft known does d.asks) in
      record { started = d.started; frequency = d.frequency; mode = mode; asks = tt }
  drafted-on (mode-ends k) v h f l d = record { started = d.started; frequency = d.frequency; mode = kept-mode l d; asks = tt }
  drafted-on (module-ends k) v h f l d = record { started = d.started; frequency = d.frequency; mode = kept-mode l d; asks = tt }
  drafted-on text-ends v h f l d = record { started = d.started; frequency = d.frequency; mode = kept-mode l d; asks = tt }

-- at the beginning of a text
pub drafted-first : (draft : Draft) (rates tasks aims : List ℕ) → draft.started ≡ false → draft.doing.frequency ≡ 0 → draft.mode ≡ record { name = []; start = false; period = 0; calls = []; updates = []; switches = [] }
    → length rates ≡ activity_room → length tasks ≡ activity_room → length aims ≡ activity_room → Drafted Q.Begin [] draft nothing_known rates tasks aims
drafted-first draft rates tasks aims e f g r t a = record { started = sym e; frequency = sym f; mode = rw g (moded-begun [] false 0 0 rates tasks aims refl r t a); asks = tt }
