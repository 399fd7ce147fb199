-- Activities: what the rules say of a head, of tasks invoked once, and of a switch's frequency.
use Rattle.std.specs.Prelude.{ℕ, ◌+◌, ◌%◌, ◌≤◌, ◌<◌, ◌≢◌, Bool, not, ltb, length}
use Rattle.std.proofs.Common.{arith, eqb-true, ltb-false}
use Rattle.std.proofs.Math.Path.{◌≡◌, refl}
use mathlib.Core.List.{List, [], ◌∷◌, ◌++◌, map}
use Rattle.std.proofs.Math.Bool.{true, false, cond}
use Rattle.std.proofs.Math.Option.{Option, none, some}
use Rattle.std.proofs.lemmas.Bool.{eqb-false, not-false}
use Rattle.std.proofs.Math.Dec.{eqb}
use Rattle.model.specs.Rooms.{period_room, frequency_room}
use Rattle.model.specs.Modules.{Mode, Act, Call}
use Rattle.model.specs.declared.Function.{Function}
use Rattle.model.specs.declared.Operand.{Operand}
use Rattle.text.specs.declared.Name.{Name}
use Rattle.timing.specs.SlotLaws.{Each, or-false}
use Rattle.accepted.specs.Lists.{and-false}
use Rattle.timing.specs.SlotFits.{Divides}
use Rattle.timing.specs.Accepted.{Absent, Distinct}
use Rattle.refusals.specs.Verdicts.{Fine}
use Rattle.refusals.specs.Checks.{first}
use Rattle.refusals.specs.ChecksLaws.{fine-one}
use Rattle.refusals.specs.Refusals.{beyond, divides, divides_all, among}
use Rattle.refusals.specs.Activities.{period_at, period_rules, switch_kind, frequencies_in, head_rules}
use Rattle.refusals.specs.Draft.{guard_of, guard_number, sourced, last_sourced}

not_so : (b : Bool) → b ≡ false → not b ≡ true
not_so b e = rw e

-- ---- numbers in range

pub in-range : (limit number : ℕ) → beyond limit number ≡ false → (0 < number) × (number ≤ limit)
in-range limit number e =
    let (a, b) = or-false (eqb number 0) (ltb limit number) e in
    let n = eqb-false number 0 a in
    let l = ltb-false limit number b in
    (positive number n, l)
  where
    positive : (n : ℕ) → (n ≡ 0 → ⊥) → 0 < n
    positive n h = by (eqb n 0) refl
      where
        by : (b : Bool) → eqb n 0 ≡ b → 0 < n
        by true e = absurd (h (eqb-true n 0 e))
        by false e = let q = eqb-false n 0 e in omega arith

pub period-range : (s : List ℕ) (digits : Name) (milli : Bool) → first (period_rules s digits milli) ≡ Fine → (0 < period_at s digits milli) × (period_at s digits milli ≤ period_room)
unfolding period_rules
period-range s digits milli v = in-range period_room (period_at s digits milli) (fine-one _ _ v).0

pub record Heads (mode : Mode) (kind frequency : ℕ) : Type 0 where
  pub whole : Divides frequency mode.period
  pub apart : kind ≡ switch_kind → divides_all frequency (frequencies_in mode) ≡ true

pub head-fine : (mode : Mode) (kind at frequency : ℕ) (digits : Name) → 0 < mode.period → first (head_rules mode kind at frequency digits) ≡ Fine → Heads mode kind frequency
unfolding head_rules
head-fine mode kind at frequency digits lasts v =
    let w = fine-one _ _ (fine-one _ _ v).1 in
    let u = fine-one _ _ w.1 in
    let x = fine-one _ _ u.1 in
    let out = not_so (beyond frequency_room frequency) w.0 in
    let range = in-range frequency_room frequency w.0 in
    let d = not-false (divides frequency mode.period) (and-false _ _ out u.0) in
    record {
      whole = record { often = range.0; lasts = lasts; whole = eqb-true _ _ d };
      apart = λ k. let is : eqb kind switch_kind ≡ true = rw k in not-false (divides_all frequency (frequencies_in mode)) (and-false _ _ out (and-false _ _ is x.0));
    }

-- ---- a guard's number is one of the module's

pub guard-below : (function : Option Function) (operands : List Operand) (before all : ℕ) → before + length (guard_of function operands) ≤ all → (g : ℕ) → guard_number function before ≡ some g → g < all
guard-below none operands before all l g e = let z : ◌≡◌ {A = ℕ} 0 1 = cc in absurd (omega arith)
guard-below (some function) operands before all l g e = let q : before ≡ g = cc in omega (arith, l, q)

-- ---- no task twice

module _ (call : Act Call) where
  absent-append : (task : ℕ) (calls : List (Act Call)) → Absent task calls → task ≢ call.what.task → Absent task (calls ++ (call ∷ []))
  absent-append task [] h n = (n, tt)
  absent-append task (other ∷ calls) h n = (h.0, absent-append task calls h.1 n)

  pub distinct_append : (calls : List (Act Call)) → Distinct calls → among call.what.task (map (λ act. act.what.task) calls) ≡ false → Distinct (calls ++ (call ∷ []))
  unfolding among
  distinct_append [] h e = (tt, tt)
  distinct_append (other ∷ calls) h e = by (eqb other.what.task call.what.task) refl e (distinct_append calls h.1)
    where
      by : (b : Bool) → eqb other.what.task call.what.task ≡ b → cond b true (among call.what.task (map (λ act. act.what.task) calls)) ≡ false → (among call.what.task (map (λ act. act.what.task) calls) ≡ false → Distinct (calls ++ (call ∷ []))) → Distinct ((other ∷ calls) ++ (call ∷ []))
      by true q e on = let z : ◌≡◌ {A = ℕ} 0 1 = cc in absurd (omega arith)
      by false q e on = (absent-append other.what.task calls h.0 (eqb-false _ _ q), on e)

-- ---- one source more for the last call

module _ (source : ℕ) where
  pub each-sourced : (C : Act Call → Type 0) → ((c : Act Call) → C c → C (sourced source c)) → (calls : List (Act Call)) → Each C calls → Each C (last_sourced source calls)
  unfolding last_sourced
  each-sourced C f [] h = tt
  each-sourced C f (call ∷ []) h = (f call h.0, tt)
  each-sourced C f (call ∷ next ∷ calls) h = (h.0, each-sourced C f (next ∷ calls) h.1)

  absent-sourced : (task : ℕ) (calls : List (Act Call)) → Absent task calls → Absent task (last_sourced source calls)
  unfolding last_sourced
  absent-sourced task [] h = tt
  absent-sourced task (call ∷ []) h = (h.0, tt)
  absent-sourced task (call ∷ next ∷ calls) h = (h.0, absent-sourced task (next ∷ calls) h.1)

  pub distinct-sourced : (calls : List (Act Call)) → Distinct calls → Distinct (last_sourced source calls)
  unfolding last_sourced
  distinct-sourced [] h = tt
  distinct-sourced (call ∷ []) h = (tt, tt)
  distinct-sourced (call ∷ next ∷ calls) h = (absent-sourced call.what.task (next ∷ calls) h.0, distinct-sourced (next ∷ calls) h.1)

-- ---- a frequency that divides those of all tasks invoked

pub all-divided : (frequency period : ℕ) (calls : List (Act Call)) → Each (λ c. Divides c.frequency period) calls → divides_all frequency (map (λ act. act.frequency) calls) ≡ true → Each (λ c. Divides c.frequency period × (c.frequency % frequency ≡ 0)) calls
unfolding divides_all
all-divided frequency period [] h e = tt
all-divided frequency period (call ∷ calls) h e = by (divides frequency call.frequency) refl e (all-divided frequency period calls h.1)
  where
    by : (b : Bool) → divides frequency call.frequency ≡ b → cond b (divides_all frequency (map (λ act. act.frequency) calls)) false ≡ true → (divides_all frequency (map (λ act. act.frequency) calls) ≡ true → Each (λ c. Divides c.frequency period × (c.frequency % frequency ≡ 0)) calls) → Each (λ c. Divides c.frequency period × (c.frequency % frequency ≡ 0)) (call ∷ calls)
    by true q e on = ((h.0, eqb-true _ _ q), on e)
    by false q e on = let z : ◌≡◌ {A = ℕ} 0 1 = cc in absurd (omega arith)
