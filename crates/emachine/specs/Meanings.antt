-- What each call answers, in document 01's numbers: its checks in their order, then what it did.
use Rattle.std.specs.Prelude.{ℕ, ◌≡◌, Bool, List, Ok}
use Rattle.std.proofs.Math.Path.{refl}
use Rattle.std.proofs.Common.{ap}
use Rattle.std.proofs.Math.Bool.{true, false, cond}
use Rattle.std.proofs.Math.Option.{Option, none, some}
use Rattle.model.specs.Clock.{elapsed, Instant, early, due, missed, judged, fits}
use Rattle.machine.specs.declared.Reaction.TheVariants as R
use Rattle.machine.specs.Told.{refuse}
use Rattle.machine.specs.Answers.{Meaning, meaning, reaction_means, turn_means, finishing_means}
use Rattle.machine.specs.Words.{lowest_in}
use Rattle.machine.specs.Boards.{Board}
use Rattle.machine.specs.Instructions.{late, wild, astray, clash, Res, ok, bad, Halt, Tally}
use Rattle.machine.specs.Store.{Store, reaction}
use Rattle.machine.specs.Calls as C
use Rattle.machine.specs.Calls.{State, came_to, sensed, reacted, reading_types, result_types, by_instant, tick, handed_out, next_task, at_work, with_words, finish}
use Rattle.machine.specs.Starts.{fresh, no_machine, start_on}

-- ---- the definitions

-- a reaction: the number of instructions obeyed; faults 40 with the late task, 41, 42 and 43
abbrev pub run_means : ℕ → Res (Halt Store) → Meaning
run_means steps (ok halt) = meaning 0 steps none
run_means steps (bad (late task)) = meaning 40 0 (some task)
run_means steps (bad wild) = meaning 41 0 none
run_means steps (bad astray) = meaning 42 0 none
run_means steps (bad clash) = meaning 43 0 none

-- sensors take the readings, then one reaction
unfoldable pub due_means : Board → State → List ℕ → Meaning
due_means b m words =
    let run = reaction b m.aside m.mode m.pc (sensed words m.store) in
    run_means run.tally.steps run.res

-- by the clock: an idle tick, a reaction, or 33
abbrev pub instant_means : Board → State → List ℕ → Instant → Meaning
instant_means b m words (early left) = meaning 0 0 none
instant_means b m words due = due_means b m words
instant_means b m words missed = meaning 33 0 none

-- start: 30 table that the reader would never return; 32 readings of wrong count or type
unfoldable pub start_means : Bool → Board → ℕ → List ℕ → List ℕ → Meaning
start_means sound b count types words =
    cond sound (cond (fits (reading_types b) types words) (due_means b (fresh b count) words) (meaning 32 0 none)) (meaning 30 0 none)

-- tick: 31 machine stopped; 32 readings of wrong count or type; 33 instant missed
unfoldable pub tick_means : Board → State → ℕ → List ℕ → List ℕ → Meaning
tick_means b m count types words =
    cond m.stopped (meaning 31 0 none)
    (cond (fits (reading_types b) types words) (instant_means b m words (judged (elapsed m.clock count) m.remaining)) (meaning 32 0 none))

-- next: 31; the lowest task that waits, or none
unfoldable pub next_means : State → Meaning
next_means m = cond m.stopped (meaning 31 0 none) (meaning 0 0 (lowest_in m.store.waiting))

-- finish: 31; 34 task not handed out or already finished; 35 results of wrong count or type
unfoldable pub finish_means : Board → State → ℕ → List ℕ → List ℕ → Meaning
finish_means b m task types words =
    cond m.stopped (meaning 31 0 none)
    (cond (at_work m.store task) (cond (fits (result_types b task) types words) (meaning 0 0 none) (meaning 35 0 none)) (meaning 34 0 none))

-- ---- the calls answer them

came-means : (m : State) (count : ℕ) (tally : Tally) (res : Res (Halt Store)) → reaction_means (came_to m count tally res).answer ≡ run_means tally.steps res
came-means m count tally (ok halt) = refl
came-means m count tally (bad (late task)) = refl
came-means m count tally (bad wild) = refl
came-means m count tally (bad astray) = refl
came-means m count tally (bad clash) = refl

pub due-means : (b : Board) (m : State) (count : ℕ) (words : List ℕ) → reaction_means (reacted b m count words).answer ≡ due_means b m words
unfolding reacted due_means
due-means b m count words =
    let run = reaction b m.aside m.mode m.pc (sensed words m.store) in
    came-means m count run.tally run.res

pub start-means : (sound : Bool) (b : Board) (count : ℕ) (types words : List ℕ) → reaction_means (start_on sound b count types words).answer ≡ start_means sound b count types words
unfolding start_means
start-means sound b count types words = go sound (fits (reading_types b) types words)
  where
    go : (s fit : Bool)
        → reaction_means (cond s (cond fit (reacted b (fresh b count) count words) (record { answer = R.Refused 32; state = no_machine })) (record { answer = R.Refused 30; state = no_machine })).answer
        ≡ cond s (cond fit (due_means b (fresh b count) words) (meaning 32 0 none)) (meaning 30 0 none)
    go false fit = refl
    go true false = refl
    go true true = due-means b (fresh b count) count words

module _ (b : Board) (m : State) (count : ℕ) (types words : List ℕ) where
  pub tick-means : reaction_means (tick b m count types words).answer ≡ tick_means b m count types words
  unfolding tick tick_means
  tick-means = go m.stopped (fits (reading_types b) types words) (judged (elapsed m.clock count) m.remaining)
    where
      go : (stopped fit : Bool) (instant : Instant)
          → reaction_means (cond stopped (record { answer = R.Refused 31; state = m }) (cond fit (by_instant b m count words instant) (record { answer = R.Refused 32; state = m }))).answer
          ≡ cond stopped (meaning 31 0 none) (cond fit (instant_means b m words instant) (meaning 32 0 none))
      go true fit instant = refl
      go false false instant = refl
      go false true (early left) = refl
      go false true due = due-means b m count words
      go false true missed = refl

pub next-means : (m : State) → turn_means (next_task m).answer ≡ next_means m
unfolding next_task next_means
next-means m = go m.stopped (lowest_in m.store.waiting)
  where
    go : (stopped : Bool) (found : Option ℕ)
        → turn_means (cond stopped (record { answer = refuse 31; state = m }) (handed_out m found)).answer ≡ cond stopped (meaning 31 0 none) (meaning 0 0 found)
    go true found = refl
    go false none = refl
    go false (some task) = refl

pub finish-means : (b : Board) (m : State) (task : ℕ) (types words : List ℕ) → finishing_means (finish b m task types words).answer ≡ finish_means b m task types words
unfolding finish finish_means
finish-means b m task types words = go m.stopped (at_work m.store task) (fits (result_types b task) types words) _
  where
    go : (stopped work fit : Bool) (taken : State)
        → finishing_means (cond {A = C.Finished} stopped (record { answer = refuse 31; state = m }) (cond work (cond fit (record { answer = Ok tt; state = taken }) (record { answer = refuse 35; state = m })) (record { answer = refuse 34; state = m }))).answer
        ≡ cond stopped (meaning 31 0 none) (cond work (cond fit (meaning 0 0 none) (meaning 35 0 none)) (meaning 34 0 none))
    go true work fit taken = refl
    go false false fit taken = refl
    go false true false taken = refl
    go false true true taken = refl
