-- What each call comes to, case by case (document 01, 'The machine'): the rules' calls taken apart once, for all theorems on histories.
use Rattle.std.specs.Prelude.{ℕ, ◌+◌, ◌-◌, ◌%◌, ◌^◌, ◌<◌, ◌≡◌, Bool, true, false, cond, List, get_or, set, eqb, ltb}
use Rattle.std.proofs.Common.{arith, ◌∙◌, ap, subst, lt-ltb, le-ltb, eq-eqb, ne_eqb, ltb-true, eqb-true}
use Rattle.std.proofs.Math.Path.{refl}
use Rattle.std.proofs.Math.Option.{Option, none, some}
use Rattle.model.specs.Clock.{elapsed, Instant, early, due, missed, judged, fits}
use Rattle.model.specs.Modules.{Module}
use Rattle.timing.specs.Rules.{Standing, idle, ready, running, done, Outcome, well, late, Place, mode_at, next_instant, instant}
use Rattle.timing.specs.Calls.{Ask, tick, next, finish, Reply, waits, reacted, refused, fell, given, taken, View, Said, lowest, reading_types, result_types, remains, stay, stands, came_to, passed, ticked, handed, finished, answer, ask}
use Rattle.timing.specs.Standings.{handed-ready}
use Rattle.timing.specs.ClockLaws.{elapsed-shifts}

module _ (M : Module) where
  -- A tick with readings that fit, on a module that is not stopped.
  pub record Taken (v : View) (types words : List ℕ) : Type 0 where
    pub going : v.stopped ≡ none
    pub fitting : fits (reading_types M) types words ≡ true

  -- A due tick: no more and no less than what remains has gone by.
  pub record Due (v : View) (count : ℕ) (types words : List ℕ) : Type 0 where
    pub taken : Taken v types words
    pub now : elapsed v.clock count ≡ remains M v.place

  -- the time of the next instant, and what the rules say of it
  abbrev pub next_time : View → ℕ
  next_time v = next_instant (mode_at M v.place.mode) v.place.time

  abbrev pub at_next : View → List ℕ → Outcome Place
  at_next v words = instant M v.place.mode (next_time v) words v.place.store

  judged-due : (gone left : ℕ) → gone ≡ left → judged gone left ≡ due
  judged-due gone left e = rw (le-ltb gone left (omega arith), eq-eqb gone left e) refl

  judged-early : (gone left : ℕ) → gone < left → judged gone left ≡ early (left - gone)
  judged-early gone left h = rw (lt-ltb gone left h) refl

  judged-missed : (gone left : ℕ) → left < gone → judged gone left ≡ missed
  judged-missed gone left h = rw (le-ltb gone left (omega arith), ne_eqb gone left (λ e. omega arith)) refl

  module _ (v : View) (count : ℕ) (types words : List ℕ) where
    taken-tick : Taken v types words → ask M (tick count types words) v ≡ ticked M v count words (judged (elapsed v.clock count) (remains M v.place))
    unfolding ask
    taken-tick t = rw t.going (rw t.fitting refl)

    -- Stopped: 31, and nothing changes. Readings of wrong count or type: 32, and nothing changes.
    pub unfit-tick : v.stopped ≡ none → fits (reading_types M) types words ≡ false → ask M (tick count types words) v ≡ stay M v (refused 32)
    unfolding ask
    unfit-tick g f = rw g (rw f refl)

    -- Less than what remains: idle; the clock and the time go on, all else stays.
    pub early-tick : Taken v types words → elapsed v.clock count < remains M v.place → ask M (tick count types words) v ≡ record { reply = waits; view = passed M v count (elapsed v.clock count) }
    early-tick t h = taken-tick t ∙ ap (λ (i : Instant). ticked M v count words i) (judged-early (elapsed v.clock count) (remains M v.place) h)

    -- Equal: one reaction.
    pub due-tick : Due v count types words → ask M (tick count types words) v ≡ came_to M v count (at_next v words)
    due-tick d = taken-tick d.taken ∙ ap (λ (i : Instant). ticked M v count words i) (judged-due (elapsed v.clock count) (remains M v.place) d.now)

    -- More: 33, and nothing changes.
    pub missed-tick : Taken v types words → remains M v.place < elapsed v.clock count → ask M (tick count types words) v ≡ stay M v (refused 33)
    missed-tick t h = taken-tick t ∙ ap (λ (i : Instant). ticked M v count words i) (judged-missed (elapsed v.clock count) (remains M v.place) h)

  -- ---- An instant that was missed

  -- The count that is due: what remains, added to the last accepted count, running over.
  abbrev pub due_count : View → ℕ
  due_count v = (v.clock + remains M v.place) % 2 ^ 32

  pub due-count : (v : View) (types words : List ℕ) → v.clock < 2 ^ 32 → remains M v.place < 2 ^ 32 → Taken v types words → Due v (due_count v) types words
  due-count v types words c r t = record { taken = t; now = elapsed-shifts v.clock (remains M v.place) c r }

  -- A tick that is missed is answered 33 and changes nothing: a later tick with the due count is served as if it had not been.
  pub missed-then-due : (v : View) (count : ℕ) (types words types1 words1 : List ℕ) → Taken v types words → remains M v.place < elapsed v.clock count
      → v.clock < 2 ^ 32 → remains M v.place < 2 ^ 32 → Taken v types1 words1
      → ((ask M (tick count types words) v).reply ≡ refused 33)
      × (ask M (tick (due_count v) types1 words1) (ask M (tick count types words) v).view ≡ came_to M v (due_count v) (at_next v words1))
  missed-then-due v count types words types1 words1 t h c r t1 =
      let e = missed-tick v count types words t h in (
        ap (λ (x : Said). x.reply) e,
        ap (λ (x : Said). ask M (tick (due_count v) types1 words1) x.view) e ∙ due-tick v (due_count v) types1 words1 (due-count v types1 words1 c r t1),
      )

  -- ---- what each reply means for what is kept

  -- Idle: clock and time alone go on.
  pub record Idles (a : Ask) (v u : View) : Type 0 where
    pub count : ℕ
    pub types : List ℕ
    pub words : List ℕ
    pub called : a ≡ tick count types words
    pub taken : Taken v types words
    pub less : elapsed v.clock count < remains M v.place
    pub shows : u ≡ passed M v count (elapsed v.clock count)

  -- A reaction: what the rules say of the next instant.
  pub record Reacts (a : Ask) (v u : View) : Type 0 where
    pub count : ℕ
    pub types : List ℕ
    pub words : List ℕ
    pub at : Place
    pub called : a ≡ tick count types words
    pub due : Due v count types words
    pub comes : at_next v words ≡ well at
    pub shows : u ≡ record { place = at; clock = count; stopped = none }

  -- Fault 40: that it stopped, and by which task.
  pub record Falls (task : ℕ) (a : Ask) (v u : View) : Type 0 where
    pub count : ℕ
    pub types : List ℕ
    pub words : List ℕ
    pub called : a ≡ tick count types words
    pub due : Due v count types words
    pub comes : at_next v words ≡ late task
    pub shows : u ≡ record { place = v.place; clock = v.clock; stopped = some task }

  -- A task handed out, and one finished: that task's standing alone.
  pub record Hands (task : ℕ) (a : Ask) (v u : View) : Type 0 where
    pub called : a ≡ next
    pub was : get_or v.place.store.tasks task idle ≡ ready
    pub shows : u ≡ stands M v (set v.place.store.tasks task running)

  pub record Takes (a : Ask) (v u : View) : Type 0 where
    pub task : ℕ
    pub types : List ℕ
    pub words : List ℕ
    pub called : a ≡ finish task types words
    pub was : get_or v.place.store.tasks task idle ≡ running
    pub fitting : fits (result_types M task) types words ≡ true
    pub shows : u ≡ stands M v (set v.place.store.tasks task (done words))

  -- Refused, or no task waits: nothing changes.
  abbrev pub Means : Ask → View → Reply → View → Type 0
  Means a v waits u = Idles a v u
  Means a v reacted u = Reacts a v u
  Means a v (refused number) u = u ≡ v
  Means a v (fell task) u = Falls task a v u
  Means a v (given none) u = u ≡ v
  Means a v (given (some task)) u = Hands task a v u
  Means a v taken u = Takes a v u

  abbrev Meant : Ask → View → Said → Type 0
  Meant a v said = Means a v said.reply said.view

  module _ (v : View) where
    meant-instant : (count : ℕ) (types words : List ℕ) (o : Outcome Place) → Due v count types words → at_next v words ≡ o → Meant (tick count types words) v (came_to M v count o)
    meant-instant count types words (well at) d e = record { count = count; types = types; words = words; at = at; called = refl; due = d; comes = e; shows = refl }
    meant-instant count types words (late task) d e = record { count = count; types = types; words = words; called = refl; due = d; comes = e; shows = refl }

    meant-ticked : (count : ℕ) (types words : List ℕ) → Taken v types words → Meant (tick count types words) v (ticked M v count words (judged (elapsed v.clock count) (remains M v.place)))
    meant-ticked count types words t = go (ltb gone left) refl (eqb gone left) refl
      where
        gone : ℕ
        gone = elapsed v.clock count

        left : ℕ
        left = remains M v.place

        go : (y : Bool) → ltb gone left ≡ y → (z : Bool) → eqb gone left ≡ z → Meant (tick count types words) v (ticked M v count words (cond y (early (left - gone)) (cond z due missed)))
        go true e z f = record { count = count; types = types; words = words; called = refl; taken = t; less = ltb-true gone left e; shows = refl }
        go false e true f = meant-instant count types words (at_next v words) (record { taken = t; now = eqb-true gone left f }) refl
        go false e false f = refl

    meant-handed : (o : Option ℕ) → lowest 0 v.place.store.tasks ≡ o → Meant next v (handed M v o)
    meant-handed none e = refl
    meant-handed (some task) e = record { called = refl; was = handed-ready task v.place.store.tasks e; shows = refl }

    meant-finished : (task : ℕ) (types words : List ℕ) (x : Standing) → get_or v.place.store.tasks task idle ≡ x → Meant (finish task types words) v (finished M v task types words x)
    meant-finished task types words idle e = refl
    meant-finished task types words ready e = refl
    meant-finished task types words (done results) e = refl
    meant-finished task types words running e = go (fits (result_types M task) types words) refl
      where
        go : (y : Bool) → fits (result_types M task) types words ≡ y
            → Meant (finish task types words) v (cond y (record { reply = taken; view = stands M v (set v.place.store.tasks task (done words)) }) (stay M v (refused 35)))
        go true f = record { task = task; types = types; words = words; called = refl; was = e; fitting = f; shows = refl }
        go false f = refl

    meant : (a : Ask) (o : Option ℕ) → v.stopped ≡ o → Meant a v (answer M a v o)
    meant a (some task) e = refl
    meant (tick count types words) none e = go (fits (reading_types M) types words) refl
      where
        go : (y : Bool) → fits (reading_types M) types words ≡ y
            → Meant (tick count types words) v (cond y (ticked M v count words (judged (elapsed v.clock count) (remains M v.place))) (stay M v (refused 32)))
        go true f = meant-ticked count types words (record { going = e; fitting = f })
        go false f = refl
    meant next none e = meant-handed (lowest 0 v.place.store.tasks) refl
    meant (finish task types words) none e = meant-finished task types words (get_or v.place.store.tasks task idle) refl

    -- Between due ticks nothing changes but clock, time and how far tasks have come: every call does what its reply says, and no more.
    pub each-means : (a : Ask) → Means a v (ask M a v).reply (ask M a v).view
    unfolding ask
    each-means a = meant a v.stopped refl

    pub meaning : (a : Ask) (r : Reply) → (ask M a v).reply ≡ r → Means a v r (ask M a v).view
    meaning a r e = subst (λ (x : Reply). Means a v x (ask M a v).view) e (each-means a)
