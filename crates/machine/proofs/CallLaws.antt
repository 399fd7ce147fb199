-- What each call answers, case by case, and what it leaves as it was (document 01, 'The machine').
use Rattle.std.specs.Prelude.{ℕ, ◌≡◌, refl, Bool, true, false, cond, List, Ok}
use Rattle.std.proofs.Common.{◌∙◌}
use Rattle.std.proofs.Math.Path.{ap}
use Rattle.std.proofs.Math.Option.{Option}
use Rattle.model.specs.Clock.{elapsed, Instant, judged, fits}
use Rattle.machine.specs.declared.Reaction.TheVariants as R
use Rattle.machine.specs.Told.{refuse}
use Rattle.machine.specs.Words.{lowest_in}
use Rattle.machine.specs.Boards.{Board}
use Rattle.machine.specs.Calls.{State, by_instant, reading_types, result_types, tick, handed_out, next_task, at_work, finish}
use Rattle.machine.specs.CallLaws.{taken}

module _ {A : Type 0} (b : Bool) (x y : A) where
  pub chosen : b ≡ true → cond b x y ≡ x
  chosen holds = rw holds refl

  pub passed : b ≡ false → cond b x y ≡ y
  passed fails = rw fails refl

-- ---- tick

module _ (b : Board) (m : State) (count : ℕ) (types words : List ℕ) where
  pub tick-stopped : m.stopped ≡ true → tick b m count types words ≡ record { answer = R.Refused 31; state = m }
  unfolding tick
  tick-stopped stopped = chosen m.stopped _ _ stopped

  pub tick-unfit : m.stopped ≡ false → fits (reading_types b) types words ≡ false → tick b m count types words ≡ record { answer = R.Refused 32; state = m }
  unfolding tick
  tick-unfit live unfit = passed m.stopped _ _ live ∙ passed (fits (reading_types b) types words) _ _ unfit

  pub tick-fit : m.stopped ≡ false → fits (reading_types b) types words ≡ true → tick b m count types words ≡ by_instant b m count words (judged (elapsed m.clock count) m.remaining)
  unfolding tick
  tick-fit live fit = passed m.stopped _ _ live ∙ chosen (fits (reading_types b) types words) _ _ fit

  module _ (live : m.stopped ≡ false) (fit : fits (reading_types b) types words ≡ true) where
    -- the instant, once it is judged
    pub tick-by : (instant : Instant) → judged (elapsed m.clock count) m.remaining ≡ instant → tick b m count types words ≡ by_instant b m count words instant
    tick-by instant same = tick-fit live fit ∙ ap (by_instant b m count words) same

-- ---- next task

module _ (m : State) where
  pub next-stopped : m.stopped ≡ true → next_task m ≡ record { answer = refuse 31; state = m }
  unfolding next_task
  next-stopped stopped = chosen m.stopped _ _ stopped

  pub next-by : m.stopped ≡ false → (found : Option ℕ) → lowest_in m.store.waiting ≡ found → next_task m ≡ handed_out m found
  unfolding next_task
  next-by live found same = passed m.stopped _ _ live ∙ ap (handed_out m) same

-- ---- finish

module _ (b : Board) (m : State) (task : ℕ) (types words : List ℕ) where
  pub finish-stopped : m.stopped ≡ true → finish b m task types words ≡ record { answer = refuse 31; state = m }
  unfolding finish
  finish-stopped stopped = chosen m.stopped _ _ stopped

  pub finish-idle : m.stopped ≡ false → at_work m.store task ≡ false → finish b m task types words ≡ record { answer = refuse 34; state = m }
  unfolding finish
  finish-idle live idle = passed m.stopped _ _ live ∙ passed (at_work m.store task) _ _ idle

  pub finish-unfit : m.stopped ≡ false → at_work m.store task ≡ true → fits (result_types b task) types words ≡ false → finish b m task types words ≡ record { answer = refuse 35; state = m }
  unfolding finish
  finish-unfit live work unfit = passed m.stopped _ _ live ∙ chosen (at_work m.store task) _ _ work ∙ passed (fits (result_types b task) types words) _ _ unfit

  pub finish-taken : m.stopped ≡ false → at_work m.store task ≡ true → fits (result_types b task) types words ≡ true → finish b m task types words ≡ record { answer = Ok tt; state = (taken b m task types words) }
  unfolding finish
  finish-taken live work fit = passed m.stopped _ _ live ∙ chosen (at_work m.store task) _ _ work ∙ chosen (fits (result_types b task) types words) _ _ fit
