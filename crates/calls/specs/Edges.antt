-- Between a machine's state and the arrays in which a host holds where it stands.
use Rattle.std.specs.Prelude.{ℕ, ◌≡◌, refl, Bool, true, false, cond, List, Ok}
use Rattle.std.proofs.Common.{sym, ◌∙◌, ap, ap₂, subst}
use Rattle.std.proofs.Math.Option as M
use Rattle.std.proofs.Math.Option.{none, some}
use Rattle.model.specs.Clock.{fits}
use Rattle.machine.specs.declared.Reaction.TheVariants as R
use Rattle.machine.specs.Told.{refuse}
use Rattle.machine.specs.Words.{lowest_in}
use Rattle.machine.specs.Boards.{Board}
use Rattle.machine.specs.Calls as C
use Rattle.machine.specs.Calls.{State, tick, next_task, handed_out, at_work, result_types, finish, stopped_by, idled}
use Rattle.machine.specs.CallLaws.{taken}
use Rattle.machine.specs.Leaves.{Went, Idled, Leaves}
use Rattle.machine.proofs.Leaves.{tick-leaves}
use Rattle.calls.specs.States.{state_by}
use Rattle.calls.specs.Lent.{Lent, lent, lent_as, lent_by, sets_handed, sets_finished}

-- ---- a tick: what is lent back stands for the state that it leaves

module _ (numbers marks sets : List ℕ) where
  abbrev pub at : List ℕ → List ℕ → State
  at ports aside = state_by numbers marks sets ports aside

  abbrev pub stands : Lent → List ℕ → List ℕ → State
  stands l ports aside = state_by l.numbers l.marks l.sets ports aside

  went : (s : State) (ports aside : List ℕ) (count steps : ℕ) → Went (at ports aside) count s → stands (lent_as (lent numbers marks sets) (R.Obeyed steps) s) s.store.ports s.aside ≡ s
  went s ports aside count steps left =
      ap₂ (λ (stopped : Bool) (fault : ℕ). record { clock = s.clock; remaining = s.remaining; mode = s.mode; pc = s.pc; store = s.store; aside = s.aside; stopped = stopped; fault = fault; late = s.late })
      (sym left.stopped) (sym left.fault)

  lent-stands : (ports aside : List ℕ) (count : ℕ) (t : C.Ticked) → Leaves (at ports aside) count t.answer t.state
      → stands (lent_by (lent numbers marks sets) t) t.state.store.ports t.state.aside ≡ t.state
  lent-stands ports aside count t = go t.answer t.state
    where
      go : (answer : Rattle.machine.specs.declared.Reaction.Reaction) (s : State) → Leaves (at ports aside) count answer s → stands (lent_as (lent numbers marks sets) answer s) s.store.ports s.aside ≡ s
      go (R.Obeyed steps) s left = went s ports aside count steps left
      go R.Idle s left = rw left.same refl
      go (R.Refused number) s left = rw left refl
      go (R.Late task) s left = rw left refl
      go (R.Fault number) s left = rw left refl

  pub ticked-stands : (b : Board) (ports aside : List ℕ) (count : ℕ) (types words : List ℕ) (t : C.Ticked) → t ≡ tick b (at ports aside) count types words
      → stands (lent_by (lent numbers marks sets) t) t.state.store.ports t.state.aside ≡ t.state
  ticked-stands b ports aside count types words t same =
      lent-stands ports aside count t (subst (λ (u : C.Ticked). Leaves (at ports aside) count u.answer u.state) (sym same) (tick-leaves b (at ports aside) count types words))

-- ---- next and finish do not read the numbers

module _ (other numbers marks sets : List ℕ) where
  abbrev pub near : List ℕ → List ℕ → State
  near ports aside = state_by numbers marks sets ports aside

  abbrev pub far : List ℕ → List ℕ → State
  far ports aside = state_by other marks sets ports aside

  -- the same answer, the same words of tasks
  pub record SameHanded (t u : C.Handed) : Type 0 where
    pub answer : t.answer ≡ u.answer
    pub tasks : sets_handed sets t ≡ sets_handed sets u

  pub next-alone : (ports aside : List ℕ) → SameHanded (next_task (far ports aside)) (next_task (near ports aside))
  unfolding next_task
  next-alone ports aside = go (near ports aside).stopped (lowest_in (near ports aside).store.waiting)
    where
      by : State → Bool → M.Option ℕ → C.Handed
      by m stopped found = cond stopped (record { answer = refuse 31; state = m }) (handed_out m found)

      go : (stopped : Bool) (found : M.Option ℕ) → SameHanded (by (far ports aside) stopped found) (by (near ports aside) stopped found)
      go true found = record { answer = refl; tasks = refl }
      go false none = record { answer = refl; tasks = refl }
      go false (some task) = record { answer = refl; tasks = refl }

  pub record SameFinished (t u : C.Finished) : Type 0 where
    pub answer : t.answer ≡ u.answer
    pub tasks : sets_finished sets t ≡ sets_finished sets u
    pub aside : t.state.aside ≡ u.state.aside

  pub finish-by-sets : (b : Board) (ports aside : List ℕ) (task : ℕ) (types words : List ℕ)
      → SameFinished (finish b (far ports aside) task types words) (finish b (near ports aside) task types words)
  unfolding finish
  finish-by-sets b ports aside task types words =
      go (near ports aside).stopped (at_work (near ports aside).store task) (fits (result_types b task) types words)
    where
      by : State → Bool → Bool → Bool → C.Finished
      by m stopped work fit =
          cond stopped (record { answer = refuse 31; state = m })
          (cond work (cond fit (record { answer = Ok tt; state = taken b m task types words }) (record { answer = refuse 35; state = m })) (record { answer = refuse 34; state = m }))

      go : (stopped work fit : Bool) → SameFinished (by (far ports aside) stopped work fit) (by (near ports aside) stopped work fit)
      go true work fit = record { answer = refl; tasks = refl; aside = refl }
      go false false fit = record { answer = refl; tasks = refl; aside = refl }
      go false true false = record { answer = refl; tasks = refl; aside = refl }
      go false true true = record { answer = refl; tasks = refl; aside = refl }

-- what is lent back stands for the state that they leave

module _ (numbers marks sets ports aside : List ℕ) where
  abbrev pub here : State
  here = state_by numbers marks sets ports aside

  pub next-stands : state_by numbers marks (sets_handed sets (next_task here)) ports aside ≡ (next_task here).state
  unfolding next_task
  next-stands = go here.stopped (lowest_in here.store.waiting)
    where
      by : Bool → M.Option ℕ → C.Handed
      by stopped found = cond stopped (record { answer = refuse 31; state = here }) (handed_out here found)

      go : (stopped : Bool) (found : M.Option ℕ) → state_by numbers marks (sets_handed sets (by stopped found)) ports aside ≡ (by stopped found).state
      go true found = refl
      go false none = refl
      go false (some task) = refl

  pub finish-stands : (b : Board) (task : ℕ) (types words : List ℕ)
      → state_by numbers marks (sets_finished sets (finish b here task types words)) ports (finish b here task types words).state.aside ≡ (finish b here task types words).state
  unfolding finish
  finish-stands b task types words = go here.stopped (at_work here.store task) (fits (result_types b task) types words)
    where
      by : Bool → Bool → Bool → C.Finished
      by stopped work fit =
          cond stopped (record { answer = refuse 31; state = here })
          (cond work (cond fit (record { answer = Ok tt; state = taken b here task types words }) (record { answer = refuse 35; state = here })) (record { answer = refuse 34; state = here }))

      go : (stopped work fit : Bool) → state_by numbers marks (sets_finished sets (by stopped work fit)) ports (by stopped work fit).state.aside ≡ (by stopped work fit).state
      go true work fit = refl
      go false false fit = refl
      go false true false = refl
      go false true true = refl
