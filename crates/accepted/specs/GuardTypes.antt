-- The guards of an accepted text: operands of the right roles and types (document 01, 'The file', refusal 24).
use Rattle.std.specs.Prelude.{ℕ, ◌+◌, ◌<◌, ◌≡◌, refl, true, cond, eqb, ltb, get_or}
use Rattle.std.proofs.Common.{arith, sym, ◌∙◌}
use Rattle.std.proofs.Math.Path.{ap}
use mathlib.Core.List.{List, [], ◌∷◌, ◌++◌, append-nil}
use Rattle.std.proofs.Math.Option.{none, some}
use borrow.Author.Tests.{eq-eqb}
use Rattle.std.proofs.Math.ListN.{length}
use Rattle.std.proofs.lemmas.List.{length-map}
use Rattle.model.specs.Bytes.{place_in, same}
use Rattle.model.specs.Modules.{Module}
use Rattle.model.specs.Values.{function_by, operands_of, no_operand}
use Rattle.model.specs.declared.Function.{Function}
use Rattle.model.specs.declared.Function.TheVariants.{IsTrue, IsFalse, Less, Equal}
use Rattle.model.specs.declared.Operand.{Operand}
use Rattle.model.specs.declared.Guard.{Guard}
use Rattle.file.specs.Parts.{all_in}
use Rattle.file.specs.References.{good_argument, argument_type, function_takes, good_guard}
use Rattle.prescribed.specs.Tables.{argument_of, guard_row}
use Rattle.text.specs.declared.Port.{Port}
use Rattle.text.specs.declared.State.{State}
use Rattle.text.specs.declared.State.TheVariants as Q
use Rattle.text.specs.declared.Item.{Item}
use Rattle.text.specs.declared.Item.TheVariants as I
use Rattle.text.specs.Items.{syntax_of}
use Rattle.text.specs.Productions.{count_at}
use Rattle.timing.specs.SlotLaws.{Each}
use Rattle.refusals.specs.declared.Row.{Row}
use Rattle.refusals.specs.Verdicts.{Fine}
use Rattle.refusals.specs.Checks.{first}
use Rattle.refusals.specs.Names.{no_type}
use Rattle.refusals.specs.Ports.{argument_named}
use Rattle.refusals.specs.Activities.{functions_given, function_named, operand_types, guard_types, types_left}
use Rattle.refusals.specs.Draft.{Doing, operand_of, guard_of}
use Rattle.refusals.specs.Rules.{Env, grow, rules, wanted_next}
use Rattle.refusals.specs.Texts.{verdict_of, module_of}
use Rattle.accepted.specs.Steps.{plain, guarded, Comes, module-begins, module-section, constant, sensor, actuator, task-begins, task-section, input, output, task-ends, mode-begins, mode-section, activity, guard-alone, guard, guard-arg, guard-last, invoke-alone, invoke, arg, arg-last, update, switch, mode-ends, module-ends, text-ends}
use Rattle.accepted.specs.Folds.{Reaches, whole, all_rows, last_env, last-rows}
use Rattle.accepted.specs.Lists.{each_append}
use Rattle.accepted.specs.GuardsFit.{guard_number, wanted-length}
use Rattle.accepted.specs.Kinds.{rows-placed}
use Rattle.accepted.specs.PortOrder.{kinds-are}
use Rattle.accepted.specs.TypesFit.{parts-fit}
use Rattle.accepted.specs.Meanings.{roles_of, types_of, Clear, rows-clear, rows-each, argument-argued}

module _ (M : Module) where
  abbrev GoodOperand : Operand → Type 0
  GoodOperand operand = good_argument (roles_of M) (argument_of operand) ≡ true

  abbrev type_of_operand : Operand → ℕ
  type_of_operand operand = argument_type (types_of M) (argument_of operand)

  -- what one operand leaves to be wanted, and what two have in common
  abbrev AfterOne : Function → ℕ → List ℕ → Type 0
  AfterOne IsTrue type wanted = (type ≡ 1) × (wanted ≡ [])
  AfterOne IsFalse type wanted = (type ≡ 1) × (wanted ≡ [])
  AfterOne Less type wanted = (type ≡ 0) × (wanted ≡ 0 ∷ [])
  AfterOne Equal type wanted = (type < 2) × (wanted ≡ type ∷ [])

  abbrev AfterTwo : Function → ℕ → ℕ → Type 0
  AfterTwo IsTrue type other = ⊥
  AfterTwo IsFalse type other = ⊥
  AfterTwo Less type other = (type ≡ 0) × (other ≡ 0)
  AfterTwo Equal type other = type ≡ other

  abbrev Shaped : Function → List Operand → List ℕ → Type 0
  Shaped function [] wanted = wanted ≡ operand_types function
  Shaped function (a ∷ []) wanted = GoodOperand a × AfterOne function (type_of_operand a) wanted
  Shaped function (a ∷ b ∷ []) wanted = GoodOperand a × GoodOperand b × AfterTwo function (type_of_operand a) (type_of_operand b) × (wanted ≡ [])
  Shaped function (a ∷ b ∷ c ∷ rest) wanted = ⊥

  none_left : {C : Type 0} (wanted : List ℕ) (n : ℕ) → wanted ≡ [] → length wanted ≡ n + 1 → C
  none_left wanted n e l = let z = ap (λ (list : List ℕ). length list) e in absurd (omega (arith, z, l))

  -- one operand more: of the next type, where that is known
  module _ (a : Operand) (type : ℕ) (good : GoodOperand a) (is : type_of_operand a ≡ type) (known : type < 2) where
    one : (function : Function) (wanted : List ℕ) → wanted ≡ operand_types function → (get_or wanted 0 no_type < 2 → get_or wanted 0 no_type ≡ type) → AfterOne function (type_of_operand a) (types_left type wanted)
    one IsTrue wanted e agrees = let q : (1 < 2 → 1 ≡ type) = rw e at agrees in (is ∙ sym (q (omega arith)), rw e)
    one IsFalse wanted e agrees = let q : (1 < 2 → 1 ≡ type) = rw e at agrees in (is ∙ sym (q (omega arith)), rw e)
    one Less wanted e agrees = let q : (0 < 2 → 0 ≡ type) = rw e at agrees in (is ∙ sym (q (omega arith)), rw e)
    one Equal wanted e agrees = (rw is known, rw (e, is))

    two : (function : Function) (first-type : ℕ) (wanted : List ℕ) (n : ℕ) → length wanted ≡ n + 1 → AfterOne function first-type wanted → (get_or wanted 0 no_type < 2 → get_or wanted 0 no_type ≡ type) → AfterTwo function first-type (type_of_operand a) × (types_left type wanted ≡ [])
    two IsTrue first-type wanted n l h agrees = none_left wanted n h.1 l
    two IsFalse first-type wanted n l h agrees = none_left wanted n h.1 l
    two Less first-type wanted n l h agrees = let q : (0 < 2 → 0 ≡ type) = rw h.1 at agrees in ((h.0, is ∙ sym (q (omega arith))), rw h.1)
    two Equal first-type wanted n l h agrees = let q : (first-type < 2 → first-type ≡ type) = rw h.1 at agrees in (q h.0 ∙ sym is, rw h.1)

    shaped-more : (function : Function) (operands : List Operand) (wanted : List ℕ) (n : ℕ) → length wanted ≡ n + 1 → (get_or wanted 0 no_type < 2 → get_or wanted 0 no_type ≡ type) → Shaped function operands wanted → Shaped function (operands ++ (a ∷ [])) (types_left type wanted)
    shaped-more function [] wanted n l agrees h = (good, one function wanted h agrees)
    shaped-more function (b ∷ []) wanted n l agrees h = let (x, y) = two function (type_of_operand b) wanted n l h.1 agrees in (h.0, good, x, y)
    shaped-more function (b ∷ c ∷ []) wanted n l agrees h = none_left wanted n h.3 l
    shaped-more function (b ∷ c ∷ d ∷ rest) wanted n l agrees h = absurd h

  -- ---- a whole guard

  abbrev pub GuardGood : Guard → Type 0
  GuardGood of = good_guard (roles_of M) (types_of M) (guard_row of) ≡ true

  one-good : (function : Function) (a : Operand) (wanted : List ℕ) → length wanted ≡ 0 → GoodOperand a → AfterOne function (type_of_operand a) wanted → GuardGood (record { function = function; first = a; second = no_operand })
  unfolding good_guard all_in function_takes place_in same
  one-good IsTrue a wanted l g h = rw (g, eq-eqb _ _ h.0)
  one-good IsFalse a wanted l g h = rw (g, eq-eqb _ _ h.0)
  one-good Less a wanted l g h = let z = ap (λ (list : List ℕ). length list) h.1 in absurd (omega (arith, z, l))
  one-good Equal a wanted l g h = let z = ap (λ (list : List ℕ). length list) h.1 in absurd (omega (arith, z, l))

  two_good : (function : Function) (a b : Operand) → GoodOperand a → GoodOperand b → AfterTwo function (type_of_operand a) (type_of_operand b) → GuardGood (record { function = function; first = a; second = b })
  unfolding good_guard all_in function_takes place_in same
  two_good IsTrue a b g k h = absurd h
  two_good IsFalse a b g k h = absurd h
  two_good Less a b g k h = rw (g, k, eq-eqb _ _ h.0, eq-eqb _ _ h.1)
  two_good Equal a b g k h = rw (g, k, eq-eqb _ _ h)

  types-some : (function : Function) → 0 < length (operand_types function)
  types-some IsTrue = omega arith
  types-some IsFalse = omega arith
  types-some Less = omega arith
  types-some Equal = omega arith

  whole-good : (function : Function) (operands : List Operand) (wanted : List ℕ) → length wanted ≡ 0 → Shaped function operands wanted → GuardGood (record { function = function; first = get_or operands 0 no_operand; second = get_or operands 1 no_operand })
  whole-good function [] wanted l h = let z = ap (λ (list : List ℕ). length list) h in let k = types-some function in absurd (omega (arith, z, l, k))
  whole-good function (a ∷ []) wanted l h = one-good function a wanted l h.0 h.1
  whole-good function (a ∷ b ∷ []) wanted l h = two_good function a b h.0 h.1 h.2
  whole-good function (a ∷ b ∷ c ∷ rest) wanted l h = absurd h

  -- ---- along a text

  record Shapes (left : ℕ) (doing : Doing) : Type 0 where
    asks : Function
    is : doing.function ≡ some asks
    shaped : Shaped asks doing.operands doing.wanted
    to-come : length doing.wanted ≡ left

  abbrev ShapeIn : List ℕ → State → ℕ → Doing → Type 0
  ShapeIn s Q.Begin at doing = Unit {0}
  ShapeIn s (Q.Module k) at doing = Unit {0}
  ShapeIn s (Q.Task k) at doing = Unit {0}
  ShapeIn s (Q.Mode k) at doing = Unit {0}
  ShapeIn s (Q.Act k) at doing = doing.function ≡ none
  ShapeIn s (Q.Guarded k) at doing = Shapes 0 doing
  ShapeIn s (Q.GuardArgs k) at doing = Shapes (count_at s at) doing
  ShapeIn s Q.Args at doing = Unit {0}
  ShapeIn s Q.Finish at doing = Unit {0}

  abbrev Shaping : List ℕ → State → ℕ → Env → Type 0
  Shaping s q at env = Each GuardGood env.draft.built.guards × ShapeIn s q at env.draft.doing

  alone-done : (guards : List Guard) (doing : Doing) → Each GuardGood guards → doing.function ≡ none → Each GuardGood (guards ++ guard_of doing.function doing.operands)
  alone-done guards doing h e = rw e (rw (append-nil guards) h)

  shaped-done : (guards : List Guard) (doing : Doing) → Each GuardGood guards → Shapes 0 doing → Each GuardGood (guards ++ guard_of doing.function doing.operands)
  shaped-done guards doing h g = rw g.is (each_append GuardGood guards (guard_of (some g.asks) doing.operands) h (whole-good g.asks doing.operands doing.wanted g.to-come g.shaped, tt))

  asked-types : (number many : ℕ) → ltb number functions_given ≡ true → operands_of (function_by number) ≡ many → guard_types number many ≡ operand_types (function_by number)
  asked-types number many k e = rw (k, eq-eqb _ _ e)

  left-length : (type : ℕ) (wanted : List ℕ) (n : ℕ) → length wanted ≡ n + 1 → length (types_left type wanted) ≡ n
  left-length type [] n e = absurd (omega arith)
  left-length type (next ∷ wanted) n e = length-map wanted (λ left. cond (eqb left no_type) type left) ∙ omega arith

  module _ (s : List ℕ) (all : List Row) (last : Env) (rows_same : last.rows ≡ all) (clear : Each (Clear M) all) where
    shape-more : (env : Env) (port : Port) (n m : ℕ) → m ≡ n + 1 → first (rules s all env (I.GuardArg port)) ≡ Fine → Reaches s all last (grow s all env (I.GuardArg port)) → Shapes m env.draft.doing → Shapes n (grow s all env (I.GuardArg port)).draft.doing
    shape-more env port n m c v r g =
        let row = argument_named s env.rows port in
        let known = rows-each (Clear M) env (I.GuardArg port) rows_same clear r in
        let a = argument-argued M s env.rows known (wanted_next env) port v in
        let l = g.to-come ∙ c in
        record { asks = g.asks; is = g.is; shaped = shaped-more (operand_of row) row.typ a.good a.type-is a.known g.asks env.draft.doing.operands env.draft.doing.wanted n l a.agrees g.shaped; to-come = left-length row.typ env.draft.doing.wanted n l }

    shaping : {q p : State} {at next : ℕ} {item : Item} (env : Env) → Comes s q at item p next → first (rules s all env item) ≡ Fine → Reaches s all last (grow s all env item) → Shaping s q at env → Shaping s p next (grow s all env item)
    shaping env (module-begins name) v r h = (h.0, tt)
    shaping env (module-section k w l b) v r h = (h.0, tt)
    shaping env (constant name value) v r h = (h.0, tt)
    shaping env (sensor typ name getter) v r h = (h.0, tt)
    shaping env (actuator typ name value setter) v r h = (h.0, tt)
    shaping env (task-begins k name l) v r h = (h.0, tt)
    shaping env (task-section k w l) v r h = (h.0, tt)
    shaping env (input typ name) v r h = (h.0, tt)
    shaping env (output typ name value) v r h = (h.0, tt)
    shaping env (task-ends k name) v r h = (h.0, tt)
    shaping env (mode-begins k start begin name digits milli l) v r h = (h.0, tt)
    shaping env (mode-section k w l b) v r h = (h.0, tt)
    shaping env (activity k begin digits l) v r h = (h.0, refl)
    shaping env (guard-alone k name) v r h =
        let (k, e) = guard_number (function_named s name) name 0 v in
        (h.0, record { asks = function_by (function_named s name); is = refl; shaped = asked-types (function_named s name) 0 k e; to-come = wanted-length (function_named s name) name 0 v })
    shaping env (guard k name many c) v r h =
        let (k, e) = guard_number (function_named s name) name many v in
        (h.0, record { asks = function_by (function_named s name); is = refl; shaped = asked-types (function_named s name) many k e; to-come = wanted-length (function_named s name) name many v ∙ c })
    shaping env (guard-arg k port c) v r h = (h.0, shape-more env port _ _ c v r h.1)
    shaping env (guard-last k port c) v r h = (h.0, shape-more env port 0 _ c v r h.1)
    shaping env (invoke-alone name plain) v r h = (alone-done env.draft.built.guards env.draft.doing h.0 h.1, tt)
    shaping env (invoke-alone name guarded) v r h = (shaped-done env.draft.built.guards env.draft.doing h.0 h.1, tt)
    shaping env (invoke name many plain c) v r h = (alone-done env.draft.built.guards env.draft.doing h.0 h.1, tt)
    shaping env (invoke name many guarded c) v r h = (shaped-done env.draft.built.guards env.draft.doing h.0 h.1, tt)
    shaping env (arg port c) v r h = (h.0, tt)
    shaping env (arg-last port c) v r h = (h.0, tt)
    shaping env (update name source plain) v r h = (alone-done env.draft.built.guards env.draft.doing h.0 h.1, tt)
    shaping env (update name source guarded) v r h = (shaped-done env.draft.built.guards env.draft.doing h.0 h.1, tt)
    shaping env (switch k name plain a b) v r h = (alone-done env.draft.built.guards env.draft.doing h.0 h.1, tt)
    shaping env (switch k name guarded a b) v r h = (shaped-done env.draft.built.guards env.draft.doing h.0 h.1, tt)
    shaping env (mode-ends k) v r h = (h.0, tt)
    shaping env (module-ends k) v r h = (h.0, tt)
    shaping env text-ends v r h = (h.0, tt)

pub guards-good : (s : List ℕ) → syntax_of s ≡ none → verdict_of s ≡ Fine → Each (GuardGood (module_of s)) (module_of s).guards
guards-good s e v =
    let M = module_of s in
    let p = parts-fit s e v in
    let k = rows-clear M (all_rows s) (kinds-are s e v) (rw (last-rows s) at p.rows-typed) (rows-placed s e v) in
    let w = whole s e v (Shaping M s) (λ q p' at next item. shaping M s (all_rows s) (last_env s) (last-rows s) k) (tt, tt) in
    w.holds.0
