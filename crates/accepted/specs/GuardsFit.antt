-- The guards of an accepted text: operands in range, and as many as the function asks for.
use Rattle.std.specs.Prelude.{ℕ, ◌+◌, ◌-◌, ◌≡◌, refl, List, [], ◌∷◌, ◌++◌, true, cond, ◌&&◌, eqb, ltb, length, get_or}
use Rattle.std.proofs.Common.{arith, sym, ◌∙◌, append-nil, leb-false, lt-ltb, eqb-true, eq-eqb, length-append}
use Rattle.std.proofs.Math.Option.{none, some}
use Rattle.std.proofs.lemmas.Bool.{not-false}
use Rattle.std.proofs.lemmas.List.{length-map}
use Rattle.model.specs.Modules.{Module}
use Rattle.model.specs.Values.{function_by, operands_of, no_operand}
use Rattle.model.specs.declared.Function.{Function}
use Rattle.model.specs.declared.Function.TheVariants.{IsTrue, IsFalse, Less, Equal}
use Rattle.model.specs.declared.Operand.{Operand}
use Rattle.model.specs.declared.Guard.{Guard}
use Rattle.text.specs.declared.Name.{Name}
use Rattle.text.specs.declared.State.{State}
use Rattle.text.specs.declared.State.TheVariants as Q
use Rattle.text.specs.declared.Item.{Item}
use Rattle.text.specs.declared.Item.TheVariants as I
use Rattle.text.specs.Items.{syntax_of}
use Rattle.text.specs.Productions.{count_at}
use Rattle.timing.specs.SlotLaws.{Each}
use Rattle.timing.specs.Accepted.{OperandFits, GuardFits}
use Rattle.refusals.specs.declared.Row.{Row}
use Rattle.refusals.specs.Verdicts.{Fine}
use Rattle.refusals.specs.Checks.{first}
use Rattle.refusals.specs.ChecksLaws.{fine-one}
use Rattle.refusals.specs.Names.{no_type}
use Rattle.refusals.specs.Ports.{argument_named}
use Rattle.refusals.specs.Activities.{functions_given, function_named, operand_types, guard_rules, guard_types, types_left}
use Rattle.refusals.specs.Draft.{Doing, operand_of, guard_of}
use Rattle.refusals.specs.Rules.{Env, grow, rules, wanted_next}
use Rattle.refusals.specs.Texts.{verdict_of, module_of}
use Rattle.accepted.specs.Steps.{plain, guarded, Comes, module-begins, module-section, constant, sensor, actuator, task-begins, task-section, input, output, task-ends, mode-begins, mode-section, activity, guard-alone, guard, guard-arg, guard-last, invoke-alone, invoke, arg, arg-last, update, switch, mode-ends, module-ends, text-ends}
use Rattle.accepted.specs.Folds.{Reaches, whole, all_rows, last_env, last-rows}
use Rattle.accepted.specs.Lists.{each_append, and-false}
use Rattle.accepted.specs.RowsFit.{rows_fit}
use Rattle.accepted.specs.Tallies.{rows-tallied}
use Rattle.accepted.specs.Known.{Within, all-within, rows-within, argument-in}

-- ---- a guard's function and the number of its operands

pub guard_number : (number : ℕ) (name : Name) (arguments : ℕ) → first (guard_rules number name arguments) ≡ Fine → (ltb number functions_given ≡ true) × (operands_of (function_by number) ≡ arguments)
unfolding guard_rules
guard_number number name arguments v =
    let w = fine-one _ _ (fine-one _ _ v).1 in
    let k = lt-ltb number functions_given (leb-false functions_given number w.0) in
    (k, eqb-true _ _ (not-false _ (and-false _ _ k (fine-one _ _ w.1).0)))

types-length : (function : Function) → length (operand_types function) ≡ operands_of function
types-length IsTrue = refl
types-length IsFalse = refl
types-length Less = refl
types-length Equal = refl

pub wanted-length : (number : ℕ) (name : Name) (arguments : ℕ) → first (guard_rules number name arguments) ≡ Fine → length (guard_types number arguments) ≡ arguments
wanted-length number name arguments v =
    let (k, e) = guard_number number name arguments v in
    let q : (ltb number functions_given && eqb (operands_of (function_by number)) arguments) ≡ true = rw (k, eq-eqb _ _ e) in
    rw q (types-length (function_by number) ∙ e)

left-length : (type : ℕ) (wanted : List ℕ) → length (types_left type wanted) ≡ length wanted - 1
left-length type [] = refl
left-length type (next ∷ wanted) = let e = length-map wanted (λ left. cond (eqb left no_type) type left) in omega (arith, e)

module _ (M : Module) where
  guard-fits : (function : Function) (operands : List Operand) → Each (OperandFits M) operands → length operands ≡ operands_of function → GuardFits M (record { function = function; first = get_or operands 0 no_operand; second = get_or operands 1 no_operand })
  guard-fits function [] h e = absurd (by function e)
    where
      by : (function : Function) → 0 ≡ operands_of function → ⊥
      by IsTrue e = omega arith
      by IsFalse e = omega arith
      by Less e = omega arith
      by Equal e = omega arith
  guard-fits IsTrue (a ∷ []) h e = record { first = h.0; second = refl }
  guard-fits IsFalse (a ∷ []) h e = record { first = h.0; second = refl }
  guard-fits Less (a ∷ []) h e = absurd (omega arith)
  guard-fits Equal (a ∷ []) h e = absurd (omega arith)
  guard-fits IsTrue (a ∷ b ∷ rest) h e = absurd (omega arith)
  guard-fits IsFalse (a ∷ b ∷ rest) h e = absurd (omega arith)
  guard-fits Less (a ∷ b ∷ rest) h e = record { first = h.0; second = h.1.0 }
  guard-fits Equal (a ∷ b ∷ rest) h e = record { first = h.0; second = h.1.0 }

  -- ---- the guard under way: arguments are to come; or it is whole

  pub record Asked (s : List ℕ) (at : ℕ) (doing : Doing) : Type 0 where
    pub asks : Function
    pub is : doing.function ≡ some asks
    pub fit : Each (OperandFits M) doing.operands
    pub enough : length doing.operands + length doing.wanted ≡ operands_of asks
    pub left : length doing.wanted ≡ count_at s at

  pub record Given (doing : Doing) : Type 0 where
    pub asks : Function
    pub is : doing.function ≡ some asks
    pub fit : Each (OperandFits M) doing.operands
    pub enough : length doing.operands ≡ operands_of asks

  abbrev GuardIn : List ℕ → State → ℕ → Doing → Type 0
  GuardIn s Q.Begin at doing = Unit {0}
  GuardIn s (Q.Module k) at doing = Unit {0}
  GuardIn s (Q.Task k) at doing = Unit {0}
  GuardIn s (Q.Mode k) at doing = Unit {0}
  GuardIn s (Q.Act k) at doing = doing.function ≡ none
  GuardIn s (Q.Guarded k) at doing = Given doing
  GuardIn s (Q.GuardArgs k) at doing = Asked s at doing
  GuardIn s Q.Args at doing = Unit {0}
  GuardIn s Q.Finish at doing = Unit {0}

  abbrev pub Guarding : List ℕ → State → ℕ → Env → Type 0
  Guarding s q at env = Each (GuardFits M) env.draft.built.guards × GuardIn s q at env.draft.doing

  -- behind what is done the guard is one of the module's
  alone-done : (guards : List Guard) (doing : Doing) → Each (GuardFits M) guards → doing.function ≡ none → Each (GuardFits M) (guards ++ guard_of doing.function doing.operands)
  alone-done guards doing h e = rw e (rw (append-nil guards) h)

  given-done : (guards : List Guard) (doing : Doing) → Each (GuardFits M) guards → Given doing → Each (GuardFits M) (guards ++ guard_of doing.function doing.operands)
  given-done guards doing h g = rw g.is (each_append (GuardFits M) guards (guard_of (some g.asks) doing.operands) h (guard-fits g.asks doing.operands g.fit g.enough, tt))

  module _ (s : List ℕ) (all : List Row) (last : Env) (same : last.rows ≡ all) (within : Each (Within M) all) where
    guarding : {q p : State} {at next : ℕ} {item : Item} (env : Env) → Comes s q at item p next → first (rules s all env item) ≡ Fine → Reaches s all last (grow s all env item) → Guarding s q at env → Guarding s p next (grow s all env item)
    guarding env (module-begins name) v r h = (h.0, tt)
    guarding env (module-section k w l b) v r h = (h.0, tt)
    guarding env (constant name value) v r h = (h.0, tt)
    guarding env (sensor typ name getter) v r h = (h.0, tt)
    guarding env (actuator typ name value setter) v r h = (h.0, tt)
    guarding env (task-begins k name l) v r h = (h.0, tt)
    guarding env (task-section k w l) v r h = (h.0, tt)
    guarding env (input typ name) v r h = (h.0, tt)
    guarding env (output typ name value) v r h = (h.0, tt)
    guarding env (task-ends k name) v r h = (h.0, tt)
    guarding env (mode-begins k start begin name digits milli l) v r h = (h.0, tt)
    guarding env (mode-section k w l b) v r h = (h.0, tt)
    guarding env (activity k begin digits l) v r h = (h.0, refl)
    guarding env (guard-alone k name) v r h =
        let (k, e) = guard_number (function_named s name) name 0 v in
        (h.0, record { asks = function_by (function_named s name); is = refl; fit = tt; enough = sym e })
    guarding env (guard k name many c) v r h =
        let (k, e) = guard_number (function_named s name) name many v in
        let w = wanted-length (function_named s name) name many v in
        (h.0, record { asks = function_by (function_named s name); is = refl; fit = tt; enough = omega (arith, w, e); left = w ∙ c })
    guarding env (guard-arg k port c) v r h =
        let row = argument_named s env.rows port in
        let f = argument-in M s env.rows (rows-within M env (I.GuardArg port) same within r) (wanted_next env) port v in
        let n = length-append env.draft.doing.operands (operand_of row ∷ []) in
        let m = left-length row.typ env.draft.doing.wanted in
        let g = h.1 in
        (h.0, record { asks = g.asks; is = g.is; fit = each_append (OperandFits M) env.draft.doing.operands (operand_of row ∷ []) g.fit (f, tt); enough = omega (arith, n, m, c, g.enough, g.left); left = omega (arith, m, c, g.left) })
    guarding env (guard-last k port c) v r h =
        let row = argument_named s env.rows port in
        let f = argument-in M s env.rows (rows-within M env (I.GuardArg port) same within r) (wanted_next env) port v in
        let n = length-append env.draft.doing.operands (operand_of row ∷ []) in
        let g = h.1 in
        (h.0, record { asks = g.asks; is = g.is; fit = each_append (OperandFits M) env.draft.doing.operands (operand_of row ∷ []) g.fit (f, tt); enough = omega (arith, n, c, g.enough, g.left) })
    guarding env (invoke-alone name plain) v r h = (alone-done env.draft.built.guards env.draft.doing h.0 h.1, tt)
    guarding env (invoke-alone name guarded) v r h = (given-done env.draft.built.guards env.draft.doing h.0 h.1, tt)
    guarding env (invoke name many plain c) v r h = (alone-done env.draft.built.guards env.draft.doing h.0 h.1, tt)
    guarding env (invoke name many guarded c) v r h = (given-done env.draft.built.guards env.draft.doing h.0 h.1, tt)
    guarding env (arg port c) v r h = (h.0, tt)
    guarding env (arg-last port c) v r h = (h.0, tt)
    guarding env (update name source plain) v r h = (alone-done env.draft.built.guards env.draft.doing h.0 h.1, tt)
    guarding env (update name source guarded) v r h = (given-done env.draft.built.guards env.draft.doing h.0 h.1, tt)
    guarding env (switch k name plain a b) v r h = (alone-done env.draft.built.guards env.draft.doing h.0 h.1, tt)
    guarding env (switch k name guarded a b) v r h = (given-done env.draft.built.guards env.draft.doing h.0 h.1, tt)
    guarding env (mode-ends k) v r h = (h.0, tt)
    guarding env (module-ends k) v r h = (h.0, tt)
    guarding env text-ends v r h = (h.0, tt)

pub guards-fit : (s : List ℕ) → syntax_of s ≡ none → verdict_of s ≡ Fine → Each (GuardFits (module_of s)) (module_of s).guards
guards-fit s e v =
    let M = module_of s in
    let k = all-within M (all_rows s) (rows_fit s e v) (rows-tallied s e v) in
    let w = whole s e v (Guarding M s) (λ q p at next item. guarding M s (all_rows s) (last_env s) (last-rows s) k) (tt, tt) in
    w.holds.0
