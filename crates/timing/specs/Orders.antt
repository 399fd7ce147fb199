-- Histories that keep to the same readings and results: what is said of them, whatever the order of handing out and finishing.
-- Instants are numbered: instant 0 is the start, instant n the n-th due tick that is served behind it.
use Rattle.std.specs.Prelude.{ℕ, suc, ◌≡◌, Bool, false, cond, ◌||◌, List, [], ◌∷◌, eqb}
use Rattle.model.specs.Modules.{Module}
use Rattle.timing.specs.Rules.{Place}
use Rattle.timing.specs.Calls.{Ask, tick, next, finish, Reply, waits, reacted, refused, fell, given, taken, View, ask, comes}
use Rattle.timing.specs.Standings.{which_out}

-- whether a number is one of these
abbrev pub among : ℕ → List ℕ → Bool
among j [] = false
among j (t ∷ ts) = eqb j t || among j ts

-- The instant at which each task was last released: instant n for those released there, the others as before.
abbrev pub stamped : ℕ → List ℕ → (ℕ → ℕ) → ℕ → ℕ
stamped n released since task = cond (among task released) n (since task)

-- the same behind a call, where the last instant was `last`: a reaction is the next instant
abbrev pub stamped_by : Reply → ℕ → List ℕ → (ℕ → ℕ) → ℕ → ℕ
stamped_by waits last released since = since
stamped_by reacted last released since = stamped (suc last) released since
stamped_by (refused number) last released since = since
stamped_by (fell task) last released since = since
stamped_by (given task) last released since = since
stamped_by taken last released since = since

-- one due tick more, if the reply says so
abbrev pub served : Reply → ℕ → ℕ
served waits n = n
served reacted n = suc n
served (refused number) n = n
served (fell task) n = n
served (given task) n = n
served taken n = n

-- What is shown after a due tick: the mode, the ports, the tasks out and those just released.
pub record Shown : Type 0 where
  pub mode : ℕ
  pub ports : List ℕ
  pub out : List ℕ
  pub released : List ℕ

-- what is shown at a place
abbrev pub showing : Place → Shown
showing at = record { mode = at.mode; ports = at.store.ports; out = which_out at.store.tasks; released = at.released }

-- what is shown behind a call, before what later calls show: a reaction shows, another call does not
abbrev pub logged : Reply → Shown → List Shown → List Shown
logged waits now log = log
logged reacted now log = now ∷ log
logged (refused number) now log = log
logged (fell task) now log = log
logged (given task) now log = log
logged taken now log = log

module _ (M : Module) where
  -- how many due ticks a history served
  abbrev pub dues : List Ask → View → ℕ
  dues [] v = 0
  dues (a ∷ rest) v = served (ask M a v).reply (dues rest (ask M a v).view)

  -- what was shown after each of them
  abbrev pub due_log : List Ask → View → List Shown
  due_log [] v = []
  due_log (a ∷ rest) v = logged (ask M a v).reply (showing (ask M a v).view.place) (due_log rest (ask M a v).view)

  -- Instant n reads `readings n`; a task that was released at instant n is finished with `results n task`; no tick faults.
  module _ (readings : ℕ → List ℕ) (results : ℕ → ℕ → List ℕ) where
    -- the reaction to this call at instant n reads what it should
    abbrev pub Reads : Ask → ℕ → Type 0
    Reads (tick count types words) n = words ≡ readings n
    Reads next n = Unit {0}
    Reads (finish task types words) n = Unit {0}

    -- the results of this call are those of the instant that released the task
    abbrev pub Gives : Ask → (ℕ → ℕ) → Type 0
    Gives (tick count types words) since = Unit {0}
    Gives next since = Unit {0}
    Gives (finish task types words) since = words ≡ results (since task) task

    -- a call behind instant `last`, by its reply
    abbrev pub KeepsAt : Ask → Reply → ℕ → (ℕ → ℕ) → Type 0
    KeepsAt a waits last since = Unit {0}
    KeepsAt a reacted last since = Reads a (suc last)
    KeepsAt a (refused number) last since = Unit {0}
    KeepsAt a (fell task) last since = ⊥
    KeepsAt a (given task) last since = Unit {0}
    KeepsAt a taken last since = Gives a since

    -- a history behind instant `last`, the tasks released last at the instants `since`
    abbrev pub Keeps : List Ask → View → ℕ → (ℕ → ℕ) → Type 0
    Keeps [] v last since = Unit {0}
    Keeps (a ∷ rest) v last since =
        KeepsAt a (ask M a v).reply last since
        × Keeps rest (ask M a v).view (served (ask M a v).reply last) (stamped_by (ask M a v).reply last (ask M a v).view.place.released since)

  -- Two histories from one view that show the same after each due tick, and where they come to.
  pub record SameRun (v : View) (first other : List Ask) : Type 0 where
    pub same-mode : (comes M first v).place.mode ≡ (comes M other v).place.mode
    pub same-ports : (comes M first v).place.store.ports ≡ (comes M other v).place.store.ports
    pub same_out : which_out (comes M first v).place.store.tasks ≡ which_out (comes M other v).place.store.tasks
    pub same-dues : due_log first v ≡ due_log other v
