-- When a module falls: a tick that ends the slot of a task that is out and unfinished, and no other tick.
use Rattle.std.specs.Prelude.{ℕ, ◌≡◌, ◌≢◌, Bool, true, false, cond, get_or, set}
use Rattle.std.proofs.Common.{arith, sym, ◌∙◌, ap, subst}
use Rattle.std.proofs.Math.Decide.{ℕ_discrete}
use Rattle.std.proofs.Math.Path.{refl}
use Rattle.std.proofs.Math.Option.{Option, none, some}
use mathlib.Core.List.{List, [], ◌∷◌, ◌++◌}
use Rattle.model.specs.Modules.{Module, Act, Call, place}
use Rattle.timing.specs.Slots.{closing}
use Rattle.timing.specs.SlotLaws.{Each}
use Rattle.timing.specs.Rules.{Standing, idle, ready, running, done, Store, Outcome, well, late, Place, mode_at, outputs_of, sensed, ended, terminations, instant}
use Rattle.timing.specs.Calls.{Ask, tick, next, finish, Reply, waits, reacted, refused, fell, given, taken, View, came_to, ask, replies, comes}
use Rattle.timing.specs.Standings.{terminated}
use Rattle.timing.specs.Ticks.{Due, next_time, at_next, due-tick, Means, each-means, meaning}

-- Out and not finished.
abbrev pub unfinished : Standing → Bool
unfinished idle = false
unfinished ready = true
unfinished running = true
unfinished (done results) = false

-- The first task of these invocations, in text order, that is out and not finished.
abbrev pub first_late : List (Act Call) → List Standing → Option ℕ
first_late [] tasks = none
first_late (a ∷ rest) tasks =
    let later = first_late rest tasks in
    cond (unfinished (get_or tasks a.what.task idle)) (some a.what.task) later

-- what comes of it is well if no task is late, else it is late with that task
abbrev pub Rightly : {A : Type 0} → Option ℕ → Outcome A → Type 0
Rightly none (well a) = Unit {0}
Rightly none (late x) = ⊥
Rightly (some task) (well a) = ⊥
Rightly (some task) (late x) = x ≡ task

rightly-late : {A : Type 0} (t : ℕ) (o : Outcome A) → Rightly (some t) o → o ≡ late t
rightly-late t (well a) r = absurd r
rightly-late t (late x) r = ap late r

rightly-well : {A : Type 0} (o : Outcome A) → Rightly none o → (a : A) × (o ≡ well a)
rightly-well (well a) r = (a, refl)
rightly-well (late x) r = absurd r

rightly-some : (o : Option ℕ) (t : ℕ) → Rightly {A = Place} o (late t) → o ≡ some t
rightly-some none t r = absurd r
rightly-some (some u) t r = ap some (sym r)

-- ---- the first of them: those before it are finished or not out

pub first-late : (before after : List (Act Call)) (a : Act Call) (tasks : List Standing) → Each (λ b. unfinished (get_or tasks b.what.task idle) ≡ false) before
    → unfinished (get_or tasks a.what.task idle) ≡ true → first_late (before ++ (a ∷ after)) tasks ≡ some a.what.task
first-late [] after a tasks b u = rw u refl
first-late (c ∷ before) after a tasks b u = rw b.0 (first-late before after a tasks b.1 u)

pub none-late : (rest : List (Act Call)) (tasks : List Standing) → Each (λ b. unfinished (get_or tasks b.what.task idle) ≡ false) rest → first_late rest tasks ≡ none
none-late [] tasks w = refl
none-late (a ∷ rest) tasks w = rw w.0 (none-late rest tasks w.1)

-- ---- terminations, and an instant

module _ (M : Module) where
  -- A termination that came about was of a task not late, and leaves the others' lateness.
  same-late : (rest : List (Act Call)) (t : ℕ) (s w : Store) → ended M t s (get_or s.tasks t idle) ≡ well w → unfinished (get_or s.tasks t idle) ≡ false → first_late rest w.tasks ≡ first_late rest s.tasks
  same-late [] t s w q f = refl
  same-late (a ∷ rest) t s w q f =
      let e : unfinished (get_or w.tasks a.what.task idle) ≡ unfinished (get_or s.tasks a.what.task idle) = go (ℕ_discrete a.what.task t) (terminated M t s w q a.what.task) in
      rw (e, same-late rest t s w q f) refl
    where
      go : Dec (a.what.task ≡ t) → (get_or w.tasks t idle ≡ idle) × ((a.what.task ≢ t) → get_or w.tasks a.what.task idle ≡ get_or s.tasks a.what.task idle)
          → unfinished (get_or w.tasks a.what.task idle) ≡ unfinished (get_or s.tasks a.what.task idle)
      go (yes h) b = rw h (ap unfinished b.0 ∙ sym f)
      go (no h) b = ap unfinished (b.1 h)

  terminations-rightly : (rest : List (Act Call)) (s : Store) → Rightly (first_late rest s.tasks) (terminations M rest s)
  terminations-rightly [] s = tt
  terminations-rightly (a ∷ rest) s = go (get_or s.tasks a.what.task idle) refl (λ w. terminations-rightly rest w)
    where
      on : (w : Store) → ended M a.what.task s (get_or s.tasks a.what.task idle) ≡ well w → unfinished (get_or s.tasks a.what.task idle) ≡ false → Rightly (first_late rest w.tasks) (terminations M rest w)
          → Rightly (first_late (a ∷ rest) s.tasks) (terminations M (a ∷ rest) s)
      on w q f r = rw (f, q) (subst (λ (o : Option ℕ). Rightly o (terminations M rest w)) (same-late rest a.what.task s w q f) r)

      go : (x : Standing) → get_or s.tasks a.what.task idle ≡ x → ((w : Store) → Rightly (first_late rest w.tasks) (terminations M rest w)) → Rightly (first_late (a ∷ rest) s.tasks) (terminations M (a ∷ rest) s)
      go idle e r = on s (rw e refl) (rw e refl) (r s)
      go ready e r = rw e refl
      go running e r = rw e refl
      go (done x) e r = on (record { ports = place (outputs_of M a.what.task) x s.ports; tasks = set s.tasks a.what.task idle }) (rw e refl) (rw e refl) (r _)

  -- An instant is late for the first late task of the invocations whose slot ends, and only then.
  pub instant-rightly : (k t : ℕ) (readings : List ℕ) (s : Store) → Rightly (first_late (closing (mode_at M k).period t (mode_at M k).calls) s.tasks) (instant M k t readings s)
  unfolding instant
  instant-rightly k t readings s = go (terminations M ending (sensed M readings s)) refl (first_late ending s.tasks) (terminations-rightly ending (sensed M readings s))
    where
      ending : List (Act Call)
      ending = closing (mode_at M k).period t (mode_at M k).calls

      go : (x : Outcome Store) → terminations M ending (sensed M readings s) ≡ x → (o : Option ℕ) → Rightly o (terminations M ending (sensed M readings s)) → Rightly o (instant M k t readings s)
      go (well v) q none h = rw (q, instant) tt
      go (well v) q (some j) h = absurd (rw q at h)
      go (late x) q none h = absurd (rw q at h)
      go (late x) q (some j) h = rw (q, instant) (rw q at h)

  -- ---- a tick

  -- the invocations whose slot ends at the next instant
  abbrev pub ending_next : View → List (Act Call)
  ending_next v = closing (mode_at M v.place.mode).period (next_time M v) (mode_at M v.place.mode).calls

  -- A tick that ends the slot of a task that is out and unfinished answers 40 with the first such task in text order, at that very instant;
  -- everything else is as before the call.
  pub late-falls : (v : View) (count : ℕ) (types words : List ℕ) (task : ℕ) → Due M v count types words → first_late (ending_next v) v.place.store.tasks ≡ some task
      → ask M (tick count types words) v ≡ record { reply = fell task; view = record { place = v.place; clock = v.clock; stopped = some task } }
  late-falls v count types words task d f =
      let r : Rightly (some task) (at_next M v words) = subst (λ (o : Option ℕ). Rightly o (at_next M v words)) f (instant-rightly v.place.mode (next_time M v) words v.place.store) in
      due-tick M v count types words d ∙ ap (λ (o : Outcome Place). came_to M v count o) (rightly-late task (at_next M v words) r)

  -- And no tick answers 40 but such a one.
  pub falls-late : (v : View) (a : Ask) (task : ℕ) → (ask M a v).reply ≡ fell task → first_late (ending_next v) v.place.store.tasks ≡ some task
  falls-late v a task e =
      let f = meaning M v a (fell task) e in
      rightly-some (first_late (ending_next v) v.place.store.tasks) task
      (subst (λ (o : Outcome Place). Rightly (first_late (ending_next v) v.place.store.tasks) o) f.comes (instant-rightly v.place.mode (next_time M v) f.words v.place.store))

  -- A due tick at which no task is late reacts.
  pub in-time-reacts : (v : View) (count : ℕ) (types words : List ℕ) → Due M v count types words → first_late (ending_next v) v.place.store.tasks ≡ none
      → (at : Place) × (at_next M v words ≡ well at) × (ask M (tick count types words) v ≡ record { reply = reacted; view = record { place = at; clock = count; stopped = none } })
  in-time-reacts v count types words d f =
      let r : Rightly none (at_next M v words) = subst (λ (o : Option ℕ). Rightly o (at_next M v words)) f (instant-rightly v.place.mode (next_time M v) words v.place.store) in
      let (at, e) = rightly-well (at_next M v words) r in
      (at, e, due-tick M v count types words d ∙ ap (λ (o : Outcome Place). came_to M v count o) e)

  -- ---- a history

  -- Every task that is out is finished before the tick that ends its slot.
  abbrev pub PromptAt : Ask → View → Type 0
  PromptAt (tick count types words) v = Due M v count types words → Each (λ a. unfinished (get_or v.place.store.tasks a.what.task idle) ≡ false) (ending_next v)
  PromptAt next v = Unit {0}
  PromptAt (finish task types words) v = Unit {0}

  abbrev pub Prompt : List Ask → View → Type 0
  Prompt [] v = Unit {0}
  Prompt (a ∷ rest) v = PromptAt a v × Prompt rest (ask M a v).view

  abbrev pub NoFault : Reply → Type 0
  NoFault r = (task : ℕ) → r ≡ fell task → ⊥

  never-falls : (a : Ask) (v : View) → PromptAt a v → NoFault (ask M a v).reply
  never-falls a v p task e =
      let f = meaning M v a (fell task) e in
      let w : PromptAt (tick f.count f.types f.words) v = subst (λ (b : Ask). PromptAt b v) f.called p in
      let n = none-late (ending_next v) v.place.store.tasks (w f.due) in
      let l = falls-late v a task e in
      let z : ◌≡◌ {A = ℕ} 0 1 = cc in
      omega arith

  -- If every released task is finished before the tick that ends its slot, there is no fault.
  pub no-fault : (asks : List Ask) (v : View) → Prompt asks v → Each NoFault (replies M asks v)
  no-fault [] v p = tt
  no-fault (a ∷ rest) v p = (never-falls a v p.0, no-fault rest (ask M a v).view p.1)

  still-going : (a : Ask) (v : View) → NoFault (ask M a v).reply → v.stopped ≡ none → (ask M a v).view.stopped ≡ none
  still-going a v n g = go (ask M a v).reply (ask M a v).view n (each-means M v a)
    where
      go : (r : Reply) (u : View) → NoFault r → Means M a v r u → u.stopped ≡ none
      go waits u n m = rw m.shows refl
      go reacted u n m = rw m.shows refl
      go (refused number) u n m = rw m g
      go (fell task) u n m = absurd (n task refl)
      go (given none) u n m = rw m g
      go (given (some task)) u n m = rw m.shows g
      go taken u n m = rw m.shows g

  -- and the module is not stopped
  pub never-stopped : (asks : List Ask) (v : View) → Prompt asks v → v.stopped ≡ none → (comes M asks v).stopped ≡ none
  never-stopped [] v p g = g
  never-stopped (a ∷ rest) v p g = never-stopped rest (ask M a v).view p.1 (still-going a v (never-falls a v p.0) g)
