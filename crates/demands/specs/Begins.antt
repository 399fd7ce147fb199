-- Demand 1: what a start answers and leaves, and what the verdict on a table says.
use Rattle.std.specs.Prelude.{ℕ, ◌≤◌, ◌≡◌, refl, Bool, true, false, cond, List}
use Rattle.std.proofs.Common.{arith, sym, ◌∙◌, ap, subst}
use Rattle.model.specs.Clock.{fits}
use Rattle.file.specs.Files.{Answer, read, refused, decode}
use Rattle.file.proofs.Returned.{returned-sound}
use Rattle.file.specs.declared.ReadAnswer.TheVariants.{Read}
use Rattle.machine.specs.Asks.{ticking}
use Rattle.machine.specs.declared.Reaction.TheVariants.{Refused}
use Rattle.machine.specs.Answers.{reaction_means}
use Rattle.machine.specs.Instructions.{late, wild, astray, clash, Res, ok, bad, Halt, Tally}
use Rattle.machine.specs.Store.{Store, reaction}
use Rattle.machine.specs.Calls as C
use Rattle.machine.specs.Calls.{State, came_to, sensed}
use Rattle.machine.specs.Starts.{start_on, fresh, no_machine}
use Rattle.tables.specs.declared.Table.{Table}
use Rattle.reading.specs.declared.Reading.{Reading}
use Rattle.reading.specs.Readings.{reading_of}
use Rattle.encoding.specs.ByteLaws.{file-whole}
use Rattle.ecode.specs.Sound.{sound_in, bytes_of, holds-sound}
use Rattle.ecode.specs.Theorems.{read-written}
use Rattle.emachine.specs.declared.Ticked.{Ticked}
use Rattle.emachine.specs.Machines.{board_in, machine_of, ticked_on}
use Rattle.starting.specs.Starting as S
use Rattle.starting.specs.Starting.{Started}
use Rattle.machine.specs.Numbers.{one_of}
use Rattle.machine.proofs.Numbers.{start-answers}
use Rattle.demands.specs.Uses.{Judges, Readable, means, number, refusal, Refuses, Faults, late_in, start_numbers, stopped, new_machine, blank_machine, One}

-- ---- the verdict

clash-of : {C : Type 0} {b : Bool} → b ≡ true → b ≡ false → C
clash-of p q = let z : true ≡ false = sym p ∙ q in let w : ◌≡◌ {A = ℕ} 0 1 = cc in absurd (omega arith)

module _ (table : Table) where
  sound-readable : sound_in table ≡ true → Readable table
  sound-readable good = record { bytes = bytes_of table; whole = file-whole 71364 table; reads = sym (read-written table good) }

  pub readable-sound : Readable table → sound_in table ≡ true
  readable-sound r = go (decode r.bytes) refl r.reads
    where
      go : (a : Answer) → decode r.bytes ≡ a → record { answer = Read; table = table } ≡ reading_of a → sound_in table ≡ true
      go (read u) e q = holds-sound table (record { table = u; good = returned-sound u (record { file = r.bytes; whole = r.whole; reads = e }); is = sym (ap (λ (x : Reading). x.table) q) })
      go (refused k) e q = let z : ◌≡◌ {A = ℕ} 0 1 = cc (ap (λ (x : Reading). x.answer) q) in absurd (omega arith)

  pub judge-one : One (Judges table)
  judge-one = record { it = sound_in table; meets = refl; once = λ other h. h }

  pub judges-readable : (answer : Bool) → Judges table answer → (answer ≡ true → Readable table) × (Readable table → answer ≡ true)
  judges-readable answer h = ((λ e. sound-readable (sym h ∙ e)), (λ r. h ∙ readable-sound r))

  -- ---- the start

  module _ (count : ℕ) (types words : List ℕ) where
    pub start-one : One (Started table count types words)
    start-one =
        let r : Ticked = ticked_on table (start_on (sound_in table) (board_in table) count types words) in
        let s = S.started table count types words r refl in
        record { it = r; meets = s; once = λ other h. S.started-once table count types words other r h s }

    -- how the run of a fresh machine ends
    came-served : (count : ℕ) (tally : Tally) (m : State) (res : Res (Halt Store)) → Refuses (ticking (came_to m count tally res).answer) → ⊥
    came-served count tally m (ok halt) r = let h : 30 ≤ 0 = r.0 in omega arith
    came-served count tally m (bad (late task)) r = let h : 40 ≤ 35 = r.1 in omega arith
    came-served count tally m (bad wild) r = let h : 41 ≤ 35 = r.1 in omega arith
    came-served count tally m (bad astray) r = let h : 42 ≤ 35 = r.1 in omega arith
    came-served count tally m (bad clash) r = let h : 43 ≤ 35 = r.1 in omega arith

    reacted-served : Refuses (ticking (C.reacted (board_in table) (fresh (board_in table) count) count words).answer) → ⊥
    unfolding C.reacted
    reacted-served r =
        let b = board_in table in
        let m = fresh b count in
        came-served count (reaction b m.aside m.mode m.pc (sensed words m.store)).tally m (reaction b m.aside m.mode m.pc (sensed words m.store)).res r

    came-faulted : (count : ℕ) (tally : Tally) (m : State) (res : Res (Halt Store)) → let r = came_to m count tally res in Faults (ticking r.answer)
        → machine_of table r.state ≡ stopped (reaction_means r.answer).number (late_in (reaction_means r.answer).task) (machine_of table m)
    came-faulted count tally m (ok halt) f = let h : 40 ≤ 0 = f.0 in absurd (omega arith)
    came-faulted count tally m (bad (late task)) f = refl
    came-faulted count tally m (bad wild) f = refl
    came-faulted count tally m (bad astray) f = refl
    came-faulted count tally m (bad clash) f = refl

    reacted-faulted : let r = C.reacted (board_in table) (fresh (board_in table) count) count words in Faults (ticking r.answer)
        → machine_of table r.state ≡ stopped (reaction_means r.answer).number (late_in (reaction_means r.answer).task) (new_machine table count)
    unfolding C.reacted
    reacted-faulted f =
        let b = board_in table in
        let m = fresh b count in
        came-faulted count (reaction b m.aside m.mode m.pc (sensed words m.store)).tally m (reaction b m.aside m.mode m.pc (sensed words m.store)).res f

    module _ (r : Ticked) (s : Started table count types words r) where
      start_is : r ≡ ticked_on table (start_on (sound_in table) (board_in table) count types words)
      start_is = let i : Ticked = ticked_on table (start_on (sound_in table) (board_in table) count types words) in S.started-once table count types words r i s (S.started table count types words i refl)

      pub start-numbers : one_of start_numbers (number (ticking r.answer)) ≡ true
      start-numbers =
          subst (λ (t : Ticked). one_of start_numbers (number (ticking t.answer)) ≡ true) (sym start_is)
          (start-answers (board_in table) (λ x. one_of start_numbers (reaction_means x).number ≡ true) (λ n within. refl) (λ task. refl) refl refl refl refl refl (sound_in table) count types words)

      pub start-refused : Refuses (ticking r.answer) → r.machine ≡ blank_machine table
      start-refused = go (sound_in table) (fits (C.reading_types (board_in table)) types words) start_is
        where
          go : (good fit : Bool) → r ≡ ticked_on table (cond good (cond fit (C.reacted (board_in table) (fresh (board_in table) count) count words) (record { answer = Refused 32; state = no_machine })) (record { answer = Refused 30; state = no_machine }))
              → Refuses (ticking r.answer) → r.machine ≡ blank_machine table
          go true true e f = absurd (reacted-served (subst (λ (t : Ticked). Refuses (ticking t.answer)) e f))
          go true false e f = ap (λ (t : Ticked). t.machine) e
          go false fit e f = ap (λ (t : Ticked). t.machine) e

      pub start-faults : Faults (ticking r.answer) → r.machine ≡ stopped (number (ticking r.answer)) (late_in (means (ticking r.answer)).task) (new_machine table count)
      start-faults = go (sound_in table) (fits (C.reading_types (board_in table)) types words) start_is
        where
          Stops : Ticked → Type 0
          Stops t = t.machine ≡ stopped (number (ticking t.answer)) (late_in (means (ticking t.answer)).task) (new_machine table count)

          go : (good fit : Bool) → r ≡ ticked_on table (cond good (cond fit (C.reacted (board_in table) (fresh (board_in table) count) count words) (record { answer = Refused 32; state = no_machine })) (record { answer = Refused 30; state = no_machine }))
              → Faults (ticking r.answer) → Stops r
          go true true e f = subst Stops (sym e) (reacted-faulted (subst (λ (t : Ticked). Faults (ticking t.answer)) e f))
          go true false e f = let h : 40 ≤ 32 = subst (λ (t : Ticked). 40 ≤ number (ticking t.answer)) e f.0 in absurd (omega arith)
          go false fit e f = let h : 40 ≤ 30 = subst (λ (t : Ticked). 40 ≤ number (ticking t.answer)) e f.0 in absurd (omega arith)

      pub start-unreadable : (Readable table → ⊥) → means (ticking r.answer) ≡ refusal 30
      start-unreadable n = go (sound_in table) refl start_is
        where
          go : (good : Bool) → sound_in table ≡ good → r ≡ ticked_on table (start_on good (board_in table) count types words) → means (ticking r.answer) ≡ refusal 30
          go true e q = absurd (n (sound-readable e))
          go false e q = ap (λ (t : Ticked). means (ticking t.answer)) q

      module _ (readable : Readable table) where
        judged-so : r ≡ ticked_on table (start_on true (board_in table) count types words)
        judged-so = start_is ∙ ap (λ (b : Bool). ticked_on table (start_on b (board_in table) count types words)) (readable-sound readable)

        pub start-unfit : fits (C.reading_types (board_in table)) types words ≡ false → means (ticking r.answer) ≡ refusal 32
        start-unfit e =
            ap (λ (t : Ticked). means (ticking t.answer)) judged-so
            ∙ ap (λ (b : Bool). means (ticking (cond b (C.reacted (board_in table) (fresh (board_in table) count) count words) (record { answer = Refused 32; state = no_machine })).answer)) e

        pub start-obeys : fits (C.reading_types (board_in table)) types words ≡ true → r ≡ ticked_on table (C.reacted (board_in table) (fresh (board_in table) count) count words)
        start-obeys e =
            judged-so ∙ ap (λ (b : Bool). ticked_on table (cond b (C.reacted (board_in table) (fresh (board_in table) count) count words) (record { answer = Refused 32; state = no_machine }))) e
