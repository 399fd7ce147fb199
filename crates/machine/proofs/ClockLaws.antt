-- Only the difference from the last accepted count matters; a missed instant is 33, changes nothing, and the due count is still served.
use Rattle.std.specs.Prelude.{ℕ, ◌^◌, ◌<◌, ◌≡◌, Bool, List}
use Rattle.std.proofs.Common.{arith, ◌∙◌, ap, le-ltb, eq-eqb, ne_eqb}
use Rattle.std.proofs.Math.Path.{refl}
use Rattle.std.proofs.Math.Bool.{true, false, cond}
use Rattle.model.specs.Clock.{elapsed, Instant, early, due, missed, judged, fits}
use Rattle.machine.specs.declared.Reaction.TheVariants as R
use Rattle.machine.specs.Boards.{Board}
use Rattle.machine.specs.Instructions.{late, wild, astray, clash, Res, ok, bad, Halt, Tally}
use Rattle.machine.specs.Store.{Store, reaction}
use Rattle.machine.specs.Calls.{State, Ticked, came_to, reacted, sensed, reading_types, by_instant, tick}
use Rattle.machine.proofs.CallLaws.{tick-by}
-- ---- the same machine by a clock that is `by` further on

use Rattle.machine.specs.ClockLaws.{later, later_state, later_ticked}

pub elapsed-later : (by from to : ℕ) → from < 2 ^ 32 → to < 2 ^ 32 → elapsed (later by from) (later by to) ≡ elapsed from to
elapsed-later by from to from-fits to-fits = omega arith

came-later : (by : ℕ) (m : State) (count : ℕ) (tally : Tally) (res : Res (Halt Store)) → came_to (later_state by m) (later by count) tally res ≡ later_ticked by (came_to m count tally res)
came-later by m count tally (ok halt) = refl
came-later by m count tally (bad (late task)) = refl
came-later by m count tally (bad wild) = refl
came-later by m count tally (bad astray) = refl
came-later by m count tally (bad clash) = refl

module _ (b : Board) (by : ℕ) (m : State) (count : ℕ) (types words : List ℕ) where
  reacted-later : reacted b (later_state by m) (later by count) words ≡ later_ticked by (reacted b m count words)
  unfolding reacted
  reacted-later = let run = reaction b m.aside m.mode m.pc (sensed words m.store) in came-later by m count run.tally run.res

  instant-later : (instant : Instant) → by_instant b (later_state by m) (later by count) words instant ≡ later_ticked by (by_instant b m count words instant)
  instant-later (early left) = refl
  instant-later due = reacted-later
  instant-later missed = refl

  pub tick-later : m.clock < 2 ^ 32 → count < 2 ^ 32 → tick b (later_state by m) (later by count) types words ≡ later_ticked by (tick b m count types words)
  unfolding tick
  tick-later clock-fits count_fits =
      rw (elapsed-later by m.clock count clock-fits count_fits) (go m.stopped (fits (reading_types b) types words) (judged (elapsed m.clock count) m.remaining))
    where
      go : (stopped fit : Bool) (instant : Instant)
          → cond stopped (record { answer = R.Refused 31; state = later_state by m }) (cond fit (by_instant b (later_state by m) (later by count) words instant) (record { answer = R.Refused 32; state = later_state by m }))
          ≡ later_ticked by (cond stopped (record { answer = R.Refused 31; state = m }) (cond fit (by_instant b m count words instant) (record { answer = R.Refused 32; state = m })))
      go true fit instant = refl
      go false true instant = instant-later instant
      go false false instant = refl

-- ---- missed, and due after all

module _ (b : Board) (m : State) (live : m.stopped ≡ false) where
  pub missed-is : (count : ℕ) (types words : List ℕ) → fits (reading_types b) types words ≡ true → m.remaining < elapsed m.clock count
      → tick b m count types words ≡ record { answer = R.Refused 33; state = m }
  missed-is count types words fit after =
      tick-by b m count types words live fit missed
      (rw (le-ltb (elapsed m.clock count) m.remaining (omega arith), ne_eqb (elapsed m.clock count) m.remaining (λ same. omega arith)) refl)

  pub due-is : (count : ℕ) (types words : List ℕ) → fits (reading_types b) types words ≡ true → elapsed m.clock count ≡ m.remaining
      → tick b m count types words ≡ reacted b m count words
  due-is count types words fit same =
      tick-by b m count types words live fit due
      (rw (le-ltb (elapsed m.clock count) m.remaining (omega arith), eq-eqb (elapsed m.clock count) m.remaining same) refl)

  pub still-served : (count : ℕ) (types words : List ℕ) → fits (reading_types b) types words ≡ true → m.remaining < elapsed m.clock count
      → (again : ℕ) (types₂ words₂ : List ℕ) → fits (reading_types b) types₂ words₂ ≡ true → elapsed m.clock again ≡ m.remaining
      → tick b (tick b m count types words).state again types₂ words₂ ≡ reacted b m again words₂
  still-served count types words fit after again types₂ words₂ fit₂ same =
      ap (λ (t : Ticked). tick b t.state again types₂ words₂) (missed-is count types words fit after) ∙ due-is again types₂ words₂ fit₂ same
