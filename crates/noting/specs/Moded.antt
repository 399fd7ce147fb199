-- The numbers and the arrays of the pass in step with the mode under way.
use Rattle.std.specs.Prelude.{ℕ, ◌+◌, ◌*◌, ◌≤◌, ◌<◌, min, ◌≡◌, Bool, true, false, cond, eqb, length, take, set}
use Rattle.std.proofs.Common.{arith, add-one, sym, ◌∙◌, lt-ltb, eq-eqb, ne_eqb, length-set, length-append, take-suc-set}
use Rattle.std.proofs.Math.Path.{refl, ap}
use mathlib.Core.List.{List, [], ◌∷◌, ◌++◌, map, map-append}
use Rattle.std.proofs.lemmas.List.{length-map, take-set-le}
use Rattle.text.specs.declared.Name.{Name}
use Rattle.model.specs.Rooms.{activity_room, period_room}
use Rattle.model.specs.Modules.{Mode, Act, Call, Update}
use Rattle.refusals.specs.Verdicts.{Fine}
use Rattle.refusals.specs.Checks.{first}
use Rattle.refusals.specs.Refusals.{among}
use Rattle.refusals.specs.Twice.{twice_in, twice_of, twice-more}
use Rattle.refusals.specs.Values.{number_of}
use Rattle.refusals.specs.Activities.{period_at, period_rules, activities_in, frequencies_in, invoked_in, updated_in}
use Rattle.refusals.specs.Draft.{with_call, with_update, with_switch, with_source, last_sourced}
use Rattle.accepted.specs.Acts.{period-range}
use Rattle.accepted.specs.GuardRoom.{sourced-length}
use Rattle.activities.specs.Kept.{period_kept}
use Rattle.noting.specs.Known.{one_more}

-- ---- numbers in an array

-- the first of an array, as many as count says, are these
pub record Holds (array : List ℕ) (count : ℕ) (numbers : List ℕ) : Type 0 where
  pub first-are : take count array ≡ numbers
  pub many : count ≡ length numbers
  pub long : length array ≡ activity_room

pub one_more_lem : (limit number : ℕ) → number < limit → one_more limit number ≡ number + 1
one_more_lem limit number h = simp (lt-ltb number limit h)

pub holds-none : (array : List ℕ) → length array ≡ activity_room → Holds array 0 []
holds-none array e = record { first-are = refl; many = refl; long = e }

-- what stands behind them does not matter
pub holds-laid : (number : ℕ) {array after : List ℕ} {count : ℕ} {numbers : List ℕ} → after ≡ set array count number → Holds array count numbers → Holds after count numbers
holds-laid number {array} {after} {count} e h =
    record { first-are = rw e (take-set-le count array count number (omega arith) ∙ h.first-are); many = h.many; long = rw e (length-set array count number ∙ h.long) }

-- until it is counted
pub holds_more : (number : ℕ) {array after : List ℕ} {count : ℕ} {numbers : List ℕ} → after ≡ set array count number → Holds array count numbers → count < activity_room → Holds after (one_more activity_room count) (numbers ++ (number ∷ []))
holds_more number {array} {after} {count} {numbers} e h l =
    let z = one_more_lem activity_room count l in
    record {
      first-are = rw (z, e, add-one count) (take-suc-set array count number (omega (arith, h.long, l)) ∙ rw h.first-are);
      many = z ∙ omega (arith, h.many, length-append numbers (number ∷ []));
      long = rw e (length-set array count number ∙ h.long);
    }

-- where no two are the same, the search for a pair with one more yields its place just where it stands among those before it
pub last-again : (numbers : List ℕ) (number : ℕ) → twice_of numbers ≡ length numbers → eqb (twice_of (numbers ++ (number ∷ []))) (length numbers) ≡ among number numbers
last-again numbers number once = by (among number numbers) refl
  where
    found : (b : Bool) → among number numbers ≡ b → twice_of (numbers ++ (number ∷ [])) ≡ cond b (length numbers) (length numbers + 1)
    found b q = twice-more numbers number once ∙ rw q

    by : (b : Bool) → among number numbers ≡ b → eqb (twice_of (numbers ++ (number ∷ []))) (length numbers) ≡ b
    by true q = eq-eqb (twice_of (numbers ++ (number ∷ []))) (length numbers) (found true q)
    by false q = ne_eqb (twice_of (numbers ++ (number ∷ []))) (length numbers) (λ z. omega (arith, z, found false q))

-- where it does not, no two are the same
once_more : (numbers : List ℕ) (number : ℕ) → twice_of numbers ≡ length numbers → among number numbers ≡ false → twice_of (numbers ++ (number ∷ [])) ≡ length (numbers ++ (number ∷ []))
once_more numbers number e a = twice-more numbers number e ∙ rw a (sym (length-append numbers (number ∷ [])))

-- ---- a mode

-- the period, the number of activities, and in arrays the frequencies and numbers of the tasks invoked and the actuators updated, none of them twice
pub record Moded (mode : Mode) (period activities calls updates : ℕ) (rates tasks aims : List ℕ) : Type 0 where
  pub lasts : period ≡ mode.period
  pub has : activities ≡ activities_in mode
  pub room : activities_in mode ≤ activity_room
  pub held-rates : Holds rates calls (frequencies_in mode)
  pub held-tasks : Holds tasks calls (invoked_in mode)
  pub held-aims : Holds aims updates (updated_in mode)
  pub tasks-once : twice_of (invoked_in mode) ≡ length (invoked_in mode)
  pub aims-once : twice_of (updated_in mode) ≡ length (updated_in mode)

module _ {mode : Mode} {period activities calls updates : ℕ} {rates tasks aims : List ℕ} (m : Moded mode period activities calls updates rates tasks aims) where
  pub calls-many : calls ≡ length mode.calls
  calls-many = m.held-tasks.many ∙ length-map mode.calls (λ act. act.what.task)

  pub updates-many : updates ≡ length mode.updates
  updates-many = m.held-aims.many ∙ length-map mode.updates (λ act. act.what.target)

  module _ {rates_then tasks_then aims_then : List ℕ} (rate task aim : ℕ) (r : rates_then ≡ set rates calls rate) (t : tasks_then ≡ set tasks calls task) (a : aims_then ≡ set aims updates aim) where
    -- what is laid behind the numbers of a mode changes nothing of it
    pub moded-laid : Moded mode period activities calls updates rates_then tasks_then aims_then
    moded-laid =
        record {
          lasts = m.lasts;
          has = m.has;
          room = m.room;
          held-rates = holds-laid rate r m.held-rates;
          held-tasks = holds-laid task t m.held-tasks;
          held-aims = holds-laid aim a m.held-aims;
          tasks-once = m.tasks-once;
          aims-once = m.aims-once;
        }

    pub moded-call : (call : Act Call) → call.frequency ≡ rate → call.what.task ≡ task → activities_in mode < activity_room → among task (invoked_in mode) ≡ false
        → Moded (with_call mode call) period (one_more activity_room activities) (one_more activity_room calls) updates rates_then tasks_then aims_then
    moded-call call f w l u =
        let n = calls-many in
        let k = length-append mode.calls (call ∷ []) in
        record {
          lasts = m.lasts;
          has = one_more_lem activity_room activities (omega (arith, m.has, l)) ∙ omega (arith, m.has, k);
          room = omega (arith, k, l);
          held-rates = rw (map-append (λ (act : Act Call). act.frequency) mode.calls (call ∷ []), f) (holds_more rate r m.held-rates (omega (arith, n, l)));
          held-tasks = rw (map-append (λ (act : Act Call). act.what.task) mode.calls (call ∷ []), w) (holds_more task t m.held-tasks (omega (arith, n, l)));
          held-aims = holds-laid aim a m.held-aims;
          tasks-once = rw (map-append (λ (act : Act Call). act.what.task) mode.calls (call ∷ []), w) (once_more (invoked_in mode) task m.tasks-once u);
          aims-once = m.aims-once;
        }

    pub moded-update : (update : Act Update) → update.what.target ≡ aim → activities_in mode < activity_room → among aim (updated_in mode) ≡ false
        → Moded (with_update mode update) period (one_more activity_room activities) calls (one_more activity_room updates) rates_then tasks_then aims_then
    moded-update update w l u =
        let n = updates-many in
        let k = length-append mode.updates (update ∷ []) in
        record {
          lasts = m.lasts;
          has = one_more_lem activity_room activities (omega (arith, m.has, l)) ∙ omega (arith, m.has, k);
          room = omega (arith, k, l);
          held-rates = holds-laid rate r m.held-rates;
          held-tasks = holds-laid task t m.held-tasks;
          held-aims = rw (map-append (λ (act : Act Update). act.what.target) mode.updates (update ∷ []), w) (holds_more aim a m.held-aims (omega (arith, n, l)));
          tasks-once = m.tasks-once;
          aims-once = rw (map-append (λ (act : Act Update). act.what.target) mode.updates (update ∷ []), w) (once_more (updated_in mode) aim m.aims-once u);
        }

    pub moded-switch : (switch : Act ℕ) → activities_in mode < activity_room → Moded (with_switch mode switch) period (one_more activity_room activities) calls updates rates_then tasks_then aims_then
    moded-switch switch l =
        let k = length-append mode.switches (switch ∷ []) in
        let b = moded-laid in
        record {
          lasts = b.lasts;
          has = one_more_lem activity_room activities (omega (arith, m.has, l)) ∙ omega (arith, m.has, k);
          room = omega (arith, k, l);
          held-rates = b.held-rates;
          held-tasks = b.held-tasks;
          held-aims = b.held-aims;
          tasks-once = b.tasks-once;
          aims-once = b.aims-once;
        }

-- one source more for the task invoked last
module _ (source : ℕ) where
  sourced-frequency : (calls : List (Act Call)) → map (λ act. act.frequency) (last_sourced source calls) ≡ map (λ act. act.frequency) calls
  unfolding last_sourced
  sourced-frequency [] = refl
  sourced-frequency (call ∷ []) = refl
  sourced-frequency (call ∷ next ∷ calls) = ap (λ (l : List ℕ). call.frequency ∷ l) (sourced-frequency (next ∷ calls))

  sourced-task : (calls : List (Act Call)) → map (λ act. act.what.task) (last_sourced source calls) ≡ map (λ act. act.what.task) calls
  unfolding last_sourced
  sourced-task [] = refl
  sourced-task (call ∷ []) = refl
  sourced-task (call ∷ next ∷ calls) = ap (λ (l : List ℕ). call.what.task ∷ l) (sourced-task (next ∷ calls))

  pub moded-source : {mode : Mode} {period activities calls updates : ℕ} {rates tasks aims : List ℕ} → Moded mode period activities calls updates rates tasks aims → Moded (with_source mode source) period activities calls updates rates tasks aims
  moded-source {mode} m =
      let n = sourced-length source mode.calls in
      record {
        lasts = m.lasts;
        has = m.has ∙ omega (arith, n);
        room = omega (arith, n, m.room);
        held-rates = rw (sourced-frequency mode.calls) m.held-rates;
        held-tasks = rw (sourced-task mode.calls) m.held-tasks;
        held-aims = m.held-aims;
        tasks-once = rw (sourced-task mode.calls) m.tasks-once;
        aims-once = m.aims-once;
      }

-- ---- a mode begins

kept-period : (number : ℕ) (milli : Bool) → cond milli (number * 1000) number ≤ period_room → cond milli (min number 4294967296 * 1000) (min number 4294967296) ≡ cond milli (number * 1000) number
kept-period number true h = omega arith
kept-period number false h = omega arith

pub period-whole : (s : List ℕ) (digits : Name) (milli : Bool) → first (period_rules s digits milli) ≡ Fine → period_kept s digits milli ≡ period_at s digits milli
period-whole s digits milli v = kept-period (number_of s digits) milli (period-range s digits milli v).1

none-twice : twice_of [] ≡ 0
unfolding twice_in
none-twice = refl

pub moded-begun : (name : List ℕ) (start : Bool) (period kept : ℕ) (rates tasks aims : List ℕ) → kept ≡ period → length rates ≡ activity_room → length tasks ≡ activity_room → length aims ≡ activity_room
    → Moded (record { name = name; start = start; period = period; calls = []; updates = []; switches = [] }) kept 0 0 0 rates tasks aims
moded-begun name start period kept rates tasks aims e r t a =
    record {
      lasts = e;
      has = refl;
      room = omega arith;
      held-rates = holds-none rates r;
      held-tasks = holds-none tasks t;
      held-aims = holds-none aims a;
      tasks-once = none-twice;
      aims-once = none-twice;
    }
