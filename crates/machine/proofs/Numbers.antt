-- Laws: no other answer exists. Start, tick, next and finish answer with document 01's numbers alone ('The machine'), and with instructions only where some were obeyed.
use Prim.Native.Nat.{ℕ, zero, suc, ◌+◌, ◌≤◌}
use native.Mathlib.Omega.{arith}
use Rattle.std.specs.Prelude.{◌≡◌, ◌≢◌, Bool, cond, length, get_or, drop, Some, None, Ok, Err}
use Rattle.std.proofs.Math.Path.{refl}
use Rattle.std.proofs.Math.Bool.{true, false}
use Rattle.std.proofs.Math.Option.{Option, none, some}
use mathlib.Core.List.{List, [], ◌∷◌}
use Rattle.model.specs.Clock.{elapsed, Instant, early, due, missed, judged, fits}
use Rattle.model.specs.Instructions.{Instr, nop, future, call, release, iff, jump, return, switch}
use Rattle.file.specs.Tables.{Table}
use Rattle.file.specs.Files.{sound}
use Rattle.machine.specs.declared.Reaction.{Reaction}
use Rattle.machine.specs.declared.Reaction.TheVariants as R
use Rattle.machine.specs.Told.{Turn, Finishing, refuse}
use Rattle.machine.specs.Words.{lowest_in}
use Rattle.machine.specs.Boards.{Board, board_of}
use Rattle.machine.specs.Instructions.{Fault, late, wild, astray, clash, Res, ok, bad, Ops, Future, Tally, no_tally, counted, step, Halt, Run, go_on, only, leave, exec}
use Rattle.machine.specs.Store.{Store, store_ops, reaction}
use Rattle.machine.specs.Calls.{State, Finished, faulted, came_to, reacted, sensed, reading_types, result_types, by_instant, tick, handed_out, next_task, at_work, finish}
use Rattle.machine.specs.CallLaws.{taken}
use Rattle.machine.specs.Starts.{fresh, no_machine, start_on, start}
use Rattle.machine.specs.Answers.{reaction_means, turn_means, finishing_means}
-- ---- the answers of each call

use Rattle.machine.specs.Numbers.{FinishAnswer, NextAnswer, StartAnswer, Stopped, TickAnswer, one_of}

-- ---- a run counts no more instructions than it is allowed
module _ {S : Type 0} (O : Ops S) (begins : List ℕ) (code : List Instr) where
  only-within : (u : Option Future) (run : Run S) (most : ℕ) → run.tally.steps ≤ most → (only u run).tally.steps ≤ most
  only-within none run most within = within
  only-within (some noted) run most within = omega arith

  on-within : (res : Res S) (next : S → Run S) (most : ℕ) → ((s : S) → (next s).tally.steps ≤ most) → (go_on res next).tally.steps ≤ most
  on-within (ok s) next most within = within s
  on-within (bad fault) next most within = omega arith

  leave-within : (u : Option Future) (n : Tally) (mode : ℕ) (s : S) (most : ℕ) → n.steps ≤ most → (leave u n mode s).tally.steps ≤ most
  leave-within none n mode s most within = omega arith
  leave-within (some noted) n mode s most within = within

  one_less : (steps before most : ℕ) → steps ≤ suc before + most → steps ≤ before + suc most
  one_less steps before most within = omega arith

  pub steps-within : (most : ℕ) (rest : List Instr) (mode : ℕ) (u : Option Future) (n : Tally) (s : S) → (exec O begins code most rest mode u n s).tally.steps ≤ n.steps + most
  unfolding exec
  steps-within zero rest mode u n s = omega arith
  steps-within (suc most) [] mode u n s = omega arith
  steps-within (suc most) (nop marker ∷ rest) mode u n s = one_less _ n.steps most (steps-within most rest mode u (step n) s)
  steps-within (suc most) (future pc delay ∷ rest) mode u n s =
      only-within u (exec O begins code most rest mode (some (record { pc = pc; delay = delay })) (step n) s) (n.steps + suc most) (one_less _ n.steps most (steps-within most rest mode (some (record { pc = pc; delay = delay })) (step n) s))
  steps-within (suc most) (call driver ∷ rest) mode u n s =
      on-within (O.drive driver s) (λ after. exec O begins code most rest mode u (counted 0 (O.ending driver s) n) after) (n.steps + suc most)
      (λ after. one_less _ n.steps most (steps-within most rest mode u (counted 0 (O.ending driver s) n) after))
  steps-within (suc most) (release task ∷ rest) mode u n s =
      on-within (O.begin task s) (λ after. exec O begins code most rest mode u (counted 1 0 n) after) (n.steps + suc most) (λ after. one_less _ n.steps most (steps-within most rest mode u (counted 1 0 n) after))
  steps-within (suc most) (iff guard other ∷ rest) mode u n s = one_less _ n.steps most (steps-within most (cond (O.test guard s) rest (drop other code)) mode u (step n) s)
  steps-within (suc most) (jump pc ∷ rest) mode u n s = one_less _ n.steps most (steps-within most (drop pc code) mode u (step n) s)
  steps-within (suc most) (return ∷ rest) mode u n s = leave-within u (step n) mode s (n.steps + suc most) (omega arith)
  steps-within (suc most) (switch target ∷ rest) mode u n s = one_less _ n.steps most (steps-within most (drop (get_or begins target 0) code) target u (step n) s)

-- ---- what holds of each answer of a call holds of all it gives

came-answers : (P : Reaction → Type 0) (most : ℕ) → ((instructions : ℕ) → instructions ≤ most → P (R.Obeyed instructions)) → ((task : ℕ) → P (R.Late task)) → P (R.Fault 41) → P (R.Fault 42) → P (R.Fault 43)
    → (m : State) (count : ℕ) (tally : Tally) → tally.steps ≤ most → (res : Res (Halt Store)) → P (came_to m count tally res).answer
came-answers P most obeyed unfinished p41 p42 p43 m count tally within (ok halt) = obeyed tally.steps within
came-answers P most obeyed unfinished p41 p42 p43 m count tally within (bad (late task)) = unfinished task
came-answers P most obeyed unfinished p41 p42 p43 m count tally within (bad wild) = p41
came-answers P most obeyed unfinished p41 p42 p43 m count tally within (bad astray) = p42
came-answers P most obeyed unfinished p41 p42 p43 m count tally within (bad clash) = p43

module _ (b : Board) (P : Reaction → Type 0) (obeyed : (instructions : ℕ) → instructions ≤ length b.code → P (R.Obeyed instructions)) (unfinished : (task : ℕ) → P (R.Late task))
    (p41 : P (R.Fault 41)) (p42 : P (R.Fault 42)) (p43 : P (R.Fault 43)) where
  reacted-answers : (m : State) (count : ℕ) (words : List ℕ) → P (reacted b m count words).answer
  unfolding reacted reaction
  reacted-answers m count words =
      let run = reaction b m.aside m.mode m.pc (sensed words m.store) in
      came-answers P (length b.code) obeyed unfinished p41 p42 p43 m count run.tally
      (omega (arith, steps-within (store_ops b m.aside) b.begins b.code (length b.code) (drop m.pc b.code) m.mode none no_tally (sensed words m.store))) run.res

  pub tick-answers : P R.Idle → P (R.Refused 31) → P (R.Refused 32) → P (R.Refused 33) → (m : State) (count : ℕ) (types words : List ℕ) → P (tick b m count types words).answer
  unfolding tick
  tick-answers idle p31 p32 p33 m count types words = go m.stopped (fits (reading_types b) types words) (judged (elapsed m.clock count) m.remaining)
    where
      go : (stopped fit : Bool) (instant : Instant)
          → P (cond stopped (record { answer = R.Refused 31; state = m }) (cond fit (by_instant b m count words instant) (record { answer = R.Refused 32; state = m }))).answer
      go true fit instant = p31
      go false true (early left) = idle
      go false true due = reacted-answers m count words
      go false true missed = p33
      go false false instant = p32

  pub start-answers : P (R.Refused 30) → P (R.Refused 32) → (is_sound : Bool) (count : ℕ) (types words : List ℕ) → P (start_on is_sound b count types words).answer
  start-answers p30 p32 is_sound count types words = go is_sound (fits (reading_types b) types words)
    where
      go : (is_sound fit : Bool) → P (cond is_sound (cond fit (reacted b (fresh b count) count words) (record { answer = R.Refused 32; state = no_machine })) (record { answer = R.Refused 30; state = no_machine })).answer
      go true true = reacted-answers (fresh b count) count words
      go true false = p32
      go false fit = p30

next-answers : (P : Turn → Type 0) → ((task : ℕ) → P (Ok (Some task))) → P (Ok None) → P (refuse 31) → (m : State) → P (next_task m).answer
unfolding next_task
next-answers P task nobody p31 m = go m.stopped (lowest_in m.store.waiting)
  where
    go : (stopped : Bool) (found : Option ℕ) → P (cond stopped (record { answer = refuse 31; state = m }) (handed_out m found)).answer
    go true found = p31
    go false none = nobody
    go false (some n) = task n

finish-answers : (P : Finishing → Type 0) → P (Ok tt) → P (refuse 31) → P (refuse 34) → P (refuse 35) → (b : Board) (m : State) (task : ℕ) (types words : List ℕ) → P (finish b m task types words).answer
unfolding finish
finish-answers P took p31 p34 p35 b m task types words = go m.stopped (at_work m.store task) (fits (result_types b task) types words)
  where
    by : Bool → Bool → Bool → Finished
    by stopped work fit =
        cond stopped (record { answer = refuse 31; state = m })
        (cond work (cond fit (record { answer = Ok tt; state = taken b m task types words }) (record { answer = refuse 35; state = m })) (record { answer = refuse 34; state = m }))

    go : (stopped work fit : Bool) → P (by stopped work fit).answer
    go true work fit = p31
    go false true true = took
    go false true false = p35
    go false false fit = p34

-- ---- no other answer exists
module _ (t : Table) (count : ℕ) (types words : List ℕ) where
  pub start-only : StartAnswer (board_of t) (start t count types words).answer
  unfolding start
  start-only = start-answers (board_of t) (StartAnswer (board_of t)) (λ n within. within) (λ task. tt) refl refl refl refl refl (sound t) count types words

  pub start-numbers : one_of (0 ∷ 30 ∷ 32 ∷ 40 ∷ 41 ∷ 42 ∷ 43 ∷ []) (reaction_means (start t count types words).answer).number ≡ true
  unfolding start
  start-numbers =
      start-answers (board_of t) (λ r. one_of (0 ∷ 30 ∷ 32 ∷ 40 ∷ 41 ∷ 42 ∷ 43 ∷ []) (reaction_means r).number ≡ true) (λ n within. refl) (λ task. refl) refl refl refl refl refl (sound t) count types words

module _ (b : Board) (m : State) where
  pub tick-only : (count : ℕ) (types words : List ℕ) → TickAnswer b (tick b m count types words).answer
  tick-only = tick-answers b (TickAnswer b) (λ n within. within) (λ task. tt) refl refl refl tt refl refl refl m

  pub tick-numbers : (count : ℕ) (types words : List ℕ) → one_of (0 ∷ 31 ∷ 32 ∷ 33 ∷ 40 ∷ 41 ∷ 42 ∷ 43 ∷ []) (reaction_means (tick b m count types words).answer).number ≡ true
  tick-numbers =
      tick-answers b (λ r. one_of (0 ∷ 31 ∷ 32 ∷ 33 ∷ 40 ∷ 41 ∷ 42 ∷ 43 ∷ []) (reaction_means r).number ≡ true) (λ n within. refl) (λ task. refl) refl refl refl refl refl refl refl m

  pub next-only : NextAnswer (next_task m).answer
  next-only = next-answers NextAnswer (λ task. tt) tt refl m

  pub next-numbers : one_of (0 ∷ 31 ∷ []) (turn_means (next_task m).answer).number ≡ true
  next-numbers = next-answers (λ r. one_of (0 ∷ 31 ∷ []) (turn_means r).number ≡ true) (λ task. refl) refl refl m

  pub finish-only : (task : ℕ) (types words : List ℕ) → FinishAnswer (finish b m task types words).answer
  finish-only = finish-answers FinishAnswer tt refl refl refl b m

  pub finish-numbers : (task : ℕ) (types words : List ℕ) → one_of (0 ∷ 31 ∷ 34 ∷ 35 ∷ []) (finishing_means (finish b m task types words).answer).number ≡ true
  finish-numbers = finish-answers (λ r. one_of (0 ∷ 31 ∷ 34 ∷ 35 ∷ []) (finishing_means r).number ≡ true) refl refl refl refl b m

pub fault-stops : (fault : Fault) (m : State) → Stopped fault (faulted fault m)
fault-stops (late task) m = record { answered = refl; stopped = refl; number = refl }
fault-stops wild m = record { answered = refl; stopped = refl; number = refl }
fault-stops astray m = record { answered = refl; stopped = refl; number = refl }
fault-stops clash m = record { answered = refl; stopped = refl; number = refl }

-- ---- instructions are counted where some were obeyed, and by no other call
-- start and tick count nothing where they answer anything but Obeyed
pub obeyed-only : (answer : Reaction) → ((instructions : ℕ) → answer ≢ R.Obeyed instructions) → (reaction_means answer).instructions ≡ 0
obeyed-only (R.Obeyed instructions) other = absurd (other instructions refl)
obeyed-only R.Idle other = refl
obeyed-only (R.Refused number) other = refl
obeyed-only (R.Late task) other = refl
obeyed-only (R.Fault number) other = refl

-- next counts nothing
pub next-uncounted : (answer : Turn) → (turn_means answer).instructions ≡ 0
next-uncounted (Ok (Some task)) = refl
next-uncounted (Ok None) = refl
next-uncounted (Err why) = refl

-- finish counts nothing
pub finish-uncounted : (answer : Finishing) → (finishing_means answer).instructions ≡ 0
finish-uncounted (Ok _) = refl
finish-uncounted (Err why) = refl
