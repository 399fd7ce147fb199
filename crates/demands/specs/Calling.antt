-- Demand 1: one answer to each call, by document 01's numbers alone; what refusals and faults leave.
use Rattle.std.specs.Prelude.{Result, Ok, Err, Some, None, ℕ, ◌≤◌, ◌≡◌, refl, ◌⊎◌, Bool, true, false, cond, ◌&&◌, List, [], ◌∷◌, ◌++◌, length, drop, eqb, leb}
use Rattle.std.proofs.Common.{arith, sym, ◌∙◌, ap, ap₂, subst, inl, inr, eqb-true}
use Rattle.model.specs.Clock.{elapsed, fits}
use Rattle.file.specs.Files.{decode}
use Rattle.file.specs.Answers.{read_number, writes, written, write_number}
use Rattle.file.specs.Bounds.{Between}
use Rattle.file.proofs.Numbers as Nu
use Rattle.file.specs.declared.ReadAnswer.TheVariants.{Read}
use Rattle.file.specs.declared.Refused.{Refused as Refusal}
use Rattle.timing.specs.SlotLaws.{Each, or_elim}
use Rattle.machine.specs.Asks.{Ask, tick, next, finish, Answer, ticking, turning, finishing}
use Rattle.machine.specs.declared.Reaction.{Reaction}
use Rattle.machine.specs.declared.Reaction.TheVariants.{Obeyed, Idle, Refused, Late, Fault}
use Rattle.machine.specs.Told.{Turn, Finishing}
use Rattle.machine.specs.Answers.{Meaning}
use Rattle.machine.specs.Calls as C
use Rattle.machine.specs.Calls.{State}
use Rattle.machine.specs.Leaves.{Leaves, LeavesNext, LeavesFinish}
use Rattle.machine.proofs.Leaves.{tick-leaves, next-leaves, finish-leaves}
use Rattle.machine.proofs.ClockLaws.{due-is}
use Rattle.tables.specs.declared.Table.{Table}
use Rattle.reading.specs.declared.Reading.{Reading}
use Rattle.reading.specs.Readings.{reading_of}
use Rattle.ecode.specs.Sound.{sound_in, bytes_of}
use Rattle.emachine.specs.declared.Machine.{Machine}
use Rattle.emachine.specs.declared.Ticked.{Ticked}
use Rattle.emachine.specs.declared.Handed.{Handed}
use Rattle.emachine.specs.declared.Finished.{Finished}
use Rattle.emachine.specs.Machines.{board_in, state_in, machine_of, ticked_on, handed_on, finished_on}
use Rattle.refusals.specs.Verdicts.{one-refusal}
use Rattle.prescribed.specs.Compiled.{Compiled}
use Rattle.prescribed.specs.Compiled as W
use Rattle.prescribed.specs.Compiles.{Compiling, file, refused, compile_of}
use Rattle.prescribed.specs.Answers.{answered, buffered}
use Rattle.prescribed.specs.Numbers.{Listed}
use Rattle.prescribed.proofs.Numbers.{refusal-numbers}
use Rattle.prescribed.proofs.Acceptance as A
use Rattle.prescribed.specs.Acceptance.{Answers}
use Rattle.bridge.specs.LaterOnly as L
use Rattle.machine.specs.Numbers.{one_of, TickAnswer, NextAnswer, FinishAnswer}
use Rattle.machine.proofs.Numbers.{tick-only, next-only, finish-only, tick-numbers, next-numbers, finish-numbers}
use Rattle.demands.specs.Uses.{Compiles, Reads, Writes, Serves, means, number, refusal, Refuses, Faults, late_in, numbers_of, stopped, One}

-- ---- compile, read, write

pub compile-one : (text before : List ℕ) → One {A = Compiled × List ℕ} (λ r. Compiles text before r.0 r.1)
compile-one text before =
    let c = compile_of text (length before) in
    record {
      it = (answered c, buffered before c);
      meets = record { answers = refl; buffer = refl };
      once = λ other h. λ i. (h.answers i, h.buffer i);
    }

pub read_one : (bytes : List ℕ) → One (Reads bytes)
read_one bytes = record { it = reading_of (decode bytes); meets = refl; once = λ other h. h }

pub write-one : (table : Table) (before : List ℕ) → One {A = Result ℕ Refusal × List ℕ} (λ r. Writes table before r.0 r.1)
write-one table before =
    record {
      it = (writes (sound_in table) (bytes_of table) before, written (sound_in table) (bytes_of table) before);
      meets = record { answers = refl; buffer = refl };
      once = λ other h. λ i. (h.answers i, h.buffer i);
    }

pub compile-refused : (text before : List ℕ) (number at : ℕ) (after : List ℕ) → Compiles text before (W.Refused number at) after → Answers text (length before) (refused number at) × (after ≡ before)
compile-refused text before number at after c = go (compile_of text (length before)) (A.answers text (length before)) c.answers c.buffer
  where
    go : (r : Compiling) → Answers text (length before) r → W.Refused number at ≡ answered r → after ≡ buffered before r → Answers text (length before) (refused number at) × (after ≡ before)
    go (file bytes) h p q = let z : ◌≡◌ {A = ℕ} 0 1 = cc in absurd (omega arith)
    go (refused k t) h p q =
        let (a, b) = one-refusal (sym p) in
        (subst (Answers text (length before)) (ap₂ refused a b) h, q)

-- no other refusal
pub compile-numbers : (text before : List ℕ) (number at : ℕ) (after : List ℕ) → Compiles text before (W.Refused number at) after → Listed text number at
compile-numbers text before number at after c = refusal-numbers text (length before) number at (sym c.answers)

pub read-numbers : (bytes : List ℕ) (r : Reading) → Reads bytes r → (r.answer ≡ Read) ⊎ Between 20 24 (read_number r.answer)
read-numbers bytes r e = subst (λ (x : Reading). (x.answer ≡ Read) ⊎ Between 20 24 (read_number x.answer)) (sym e) (Nu.read-numbers bytes)

pub write-numbers : (table : Table) (before : List ℕ) (answer : Result ℕ Refusal) (after : List ℕ) → Writes table before answer after
    → (answer ≡ Ok (length (bytes_of table))) ⊎ ((write_number answer ≡ 30) ⊎ (write_number answer ≡ 14))
write-numbers table before answer after w =
    subst (λ (x : Result ℕ Refusal). (x ≡ Ok (length (bytes_of table))) ⊎ ((write_number x ≡ 30) ⊎ (write_number x ≡ 14))) (sym w.answers) (Nu.write-numbers (sound_in table) (bytes_of table) before)

-- ---- numbers of a list

within : (l : List ℕ) (low high n : ℕ) → Each (λ k. (low ≤ k) × (k ≤ high)) l → one_of l n ≡ true → (low ≤ n) × (n ≤ high)
within [] low high n w e = let z : ◌≡◌ {A = ℕ} 0 1 = cc in absurd (omega arith)
within (k ∷ l) low high n w e = or_elim (eqb n k) (one_of l n) e (λ q. let p = eqb-true n k q in let (a, b) = w.0 in (omega arith, omega arith)) (λ q. within l low high n w.1 q)

refusal-number : (l : List ℕ) (n : ℕ) → Each (λ k. (31 ≤ k) × (k ≤ 35)) l → one_of l n ≡ true → (31 ≤ n) × (n ≤ 35)
refusal-number l n = within l 31 35 n

module _ (m : Machine) where
  abbrev pub reading_types_in : List ℕ
  reading_types_in = C.reading_types (board_in m.table)

  -- ---- one answer

  abbrev served : Ask → Answer × Machine
  served (tick count types words) = let r = ticked_on m.table (C.tick (board_in m.table) (state_in m) count types words) in (ticking r.answer, r.machine)
  served next = let r = handed_on m.table (C.next_task (state_in m)) in (turning r.answer, r.machine)
  served (finish task types words) = let r = finished_on m.table (C.finish (board_in m.table) (state_in m) task types words) in (finishing r.answer, r.machine)

  meets : (a : Ask) → Serves m a (served a).0 (served a).1
  meets (tick count types words) = refl
  meets next = refl
  meets (finish task types words) = refl

  once : (a : Ask) (x : Answer) (n : Machine) → Serves m a x n → ◌≡◌ {A = Answer × Machine} (x, n) (served a)
  once (tick count types words) (ticking x) n e = ap (λ (r : Ticked). (ticking r.answer, r.machine)) e
  once (tick count types words) (turning x) n e = absurd e
  once (tick count types words) (finishing x) n e = absurd e
  once next (ticking x) n e = absurd e
  once next (turning x) n e = ap (λ (r : Handed). (turning r.answer, r.machine)) e
  once next (finishing x) n e = absurd e
  once (finish task types words) (ticking x) n e = absurd e
  once (finish task types words) (turning x) n e = absurd e
  once (finish task types words) (finishing x) n e = ap (λ (r : Finished). (finishing r.answer, r.machine)) e

  pub call-one : (a : Ask) → One {A = Answer × Machine} (λ r. Serves m a r.0 r.1)
  call-one a = record { it = served a; meets = meets a; once = λ other h. once a other.0 other.1 h }

  -- ---- by its number

  numbers : (a : Ask) → one_of (numbers_of a) (number (served a).0) ≡ true
  numbers (tick count types words) = tick-numbers (board_in m.table) (state_in m) count types words
  numbers next = next-numbers (board_in m.table) (state_in m)
  numbers (finish task types words) = finish-numbers (board_in m.table) (state_in m) task types words

  pub call-numbers : (a : Ask) (x : Answer) (n : Machine) → Serves m a x n → one_of (numbers_of a) (number x) ≡ true
  call-numbers a x n e = subst (λ (r : Answer × Machine). one_of (numbers_of a) (number r.0) ≡ true) (sym (once a x n e)) (numbers a)

  -- ---- what each answer leaves

  data Left (x : Answer) (n : Machine) : Type 0 where
    fine : number x ≡ 0 → Left x n
    refuses : (k : ℕ) → means x ≡ refusal k → (31 ≤ k) × (k ≤ 35) → n ≡ m → Left x n
    late : (task : ℕ) → x ≡ ticking (Late task) → n ≡ stopped 40 task m → Left x n
    wild : (k : ℕ) → x ≡ ticking (Fault k) → (41 ≤ k) × (k ≤ 43) → n ≡ stopped k 0 m → Left x n

  tick-left : (count : ℕ) (x : Reaction) (s : State) → TickAnswer (board_in m.table) x → Leaves (state_in m) count x s → Left (ticking x) (machine_of m.table s)
  tick-left count (Obeyed k) s o h = fine refl
  tick-left count Idle s o h = fine refl
  tick-left count (Refused k) s o h = refuses k refl (refusal-number (31 ∷ 32 ∷ 33 ∷ []) k ((omega arith, omega arith), ((omega arith, omega arith), ((omega arith, omega arith), tt))) o) (ap (machine_of m.table) h)
  tick-left count (Late task) s o h = late task refl (ap (machine_of m.table) h)
  tick-left count (Fault k) s o h = wild k refl (within (41 ∷ 42 ∷ 43 ∷ []) 41 43 k ((omega arith, omega arith), ((omega arith, omega arith), ((omega arith, omega arith), tt))) o) (ap (machine_of m.table) h)

  next-left : (x : Turn) (s : State) → NextAnswer x → LeavesNext (state_in m) x s → Left (turning x) (machine_of m.table s)
  next-left (Ok (Some task)) s o h = fine refl
  next-left (Ok None) s o h = fine refl
  next-left (Err why) s o h = refuses why.number refl (refusal-number (31 ∷ []) why.number ((omega arith, omega arith), tt) o) (ap (machine_of m.table) h)

  finish-left : (task : ℕ) (words : List ℕ) (x : Finishing) (s : State) → FinishAnswer x → LeavesFinish (state_in m) task words x s → Left (finishing x) (machine_of m.table s)
  finish-left task words (Ok _) s o h = fine refl
  finish-left task words (Err why) s o h = refuses why.number refl (refusal-number (31 ∷ 34 ∷ 35 ∷ []) why.number ((omega arith, omega arith), ((omega arith, omega arith), ((omega arith, omega arith), tt))) o) (ap (machine_of m.table) h)

  leaves : (a : Ask) → Left (served a).0 (served a).1
  leaves (tick count types words) =
      let b = board_in m.table in
      let r = C.tick b (state_in m) count types words in
      tick-left count r.answer r.state (tick-only b (state_in m) count types words) (tick-leaves b (state_in m) count types words)
  leaves next = let r = C.next_task (state_in m) in next-left r.answer r.state (next-only (board_in m.table) (state_in m)) (next-leaves (state_in m))
  leaves (finish task types words) =
      let b = board_in m.table in
      let r = C.finish b (state_in m) task types words in
      finish-left task words r.answer r.state (finish-only b (state_in m) task types words) (finish-leaves b (state_in m) task types words)

  module _ (a : Ask) (x : Answer) (n : Machine) (e : Serves m a x n) where
    left : Left x n
    left = subst (λ (r : Answer × Machine). Left r.0 r.1) (sym (once a x n e)) (leaves a)

    pub call-refused : Refuses x → n ≡ m
    call-refused r = go left
      where
        go : Left x n → n ≡ m
        go (fine z) = let h = r.0 in absurd (omega arith)
        go (refuses k p w q) = q
        go (late task p q) = let h : 40 ≤ 35 = subst (λ (y : Answer). number y ≤ 35) p r.1 in absurd (omega arith)
        go (wild k p w q) = let h : k ≤ 35 = subst (λ (y : Answer). number y ≤ 35) p r.1 in let l = w.0 in absurd (omega arith)

    pub fault-stops : Faults x → n ≡ stopped (number x) (late_in (means x).task) m
    fault-stops f = go left
      where
        go : Left x n → n ≡ stopped (number x) (late_in (means x).task) m
        go (fine z) = let h = f.0 in absurd (omega arith)
        go (refuses k p w q) = let h : 40 ≤ k = subst (λ (y : Meaning). 40 ≤ y.number) p f.0 in let l = w.1 in absurd (omega arith)
        go (late task p q) = q ∙ ap (λ (y : Answer). stopped (number y) (late_in (means y).task) m) (sym p)
        go (wild k p w q) = q ∙ ap (λ (y : Answer). stopped (number y) (late_in (means y).task) m) (sym p)

    pub fault-names : number x ≡ 40 → (task : ℕ) × (x ≡ ticking (Late task))
    fault-names f = go left
      where
        go : Left x n → (task : ℕ) × (x ≡ ticking (Late task))
        go (fine z) = absurd (omega arith)
        go (refuses k p w q) = let h : k ≡ 40 = sym (ap (λ (y : Meaning). y.number) p) ∙ f in let l = w.1 in absurd (omega arith)
        go (late task p q) = (task, p)
        go (wild k p w q) = let h : k ≡ 40 = sym (ap number p) ∙ f in let l = w.0 in absurd (omega arith)

    pub fault-is : Faults x → ((task : ℕ) × (x ≡ ticking (Late task))) ⊎ ((k : ℕ) × (x ≡ ticking (Fault k)))
    fault-is f = go left
      where
        go : Left x n → ((task : ℕ) × (x ≡ ticking (Late task))) ⊎ ((k : ℕ) × (x ≡ ticking (Fault k)))
        go (fine z) = let h = f.0 in absurd (omega arith)
        go (refuses k p w q) = let h : 40 ≤ k = subst (λ (y : Meaning). 40 ≤ y.number) p f.0 in let l = w.1 in absurd (omega arith)
        go (late task p q) = inl (task, p)
        go (wild k p w q) = inr (k, p)

    pub number_small : ((k : ℕ) → x ≡ ticking (Fault k) → ⊥) → number x ≤ 40
    number_small none = go left
      where
        go : Left x n → number x ≤ 40
        go (fine z) = omega arith
        go (refuses k p w q) = let h : number x ≡ k = ap (λ (y : Meaning). y.number) p in let l = w.1 in omega arith
        go (late task p q) = let h : number x ≡ 40 = ap number p in omega arith
        go (wild k p w q) = absurd (none k p)

  -- ---- a stopped machine

  stopped-left : m.standing.stopped ≡ true → (a : Ask) → (means (served a).0 ≡ refusal 31) × ((served a).1 ≡ m)
  unfolding C.tick C.next_task C.finish
  stopped-left s (tick count types words) = rw s (refl, refl)
  stopped-left s next = rw s (refl, refl)
  stopped-left s (finish task types words) = rw s (refl, refl)

  pub stopped-refuses : m.standing.stopped ≡ true → (a : Ask) (x : Answer) (n : Machine) → Serves m a x n → (means x ≡ refusal 31) × (n ≡ m)
  stopped-refuses s a x n e = subst (λ (r : Answer × Machine). (means r.0 ≡ refusal 31) × (r.1 ≡ m)) (sym (once a x n e)) (stopped-left s a)

  -- ---- ticks

  pub obeys : (count : ℕ) (types words : List ℕ) (x : Reaction) (n : Machine) → Serves m (tick count types words) (ticking x) n
      → m.standing.stopped ≡ false → fits reading_types_in types words ≡ true → elapsed m.standing.clock count ≡ m.standing.remaining
      → ◌≡◌ {A = Ticked} (record { answer = x; machine = n }) (ticked_on m.table (C.reacted (board_in m.table) (state_in m) count words))
  obeys count types words x n e live fit now = e ∙ ap (ticked_on m.table) (due-is (board_in m.table) (state_in m) live count types words fit now)

  pub deaf : (count : ℕ) (types words types₁ words₁ : List ℕ) (x y : Answer) (n k : Machine) → Serves m (tick count types words) x n → Serves m (tick count types₁ words₁) y k
      → fits reading_types_in types words ≡ fits reading_types_in types₁ words₁ → (elapsed m.standing.clock count ≡ m.standing.remaining → ⊥) → (y ≡ x) × (k ≡ n)
  deaf count types words types₁ words₁ x y n k e f same off =
      let q : served (tick count types₁ words₁) ≡ served (tick count types words) =
      ap (λ (r : C.Ticked). (ticking r.answer, machine_of m.table r.state)) (sym (L.deaf (board_in m.table) (state_in m) count words words₁ types types₁ same off)) in
      let p : ◌≡◌ {A = Answer × Machine} (y, k) (x, n) = once (tick count types₁ words₁) y k f ∙ q ∙ sym (once (tick count types words) x n e) in
      (ap (λ (r : Answer × Machine). r.0) p, ap (λ (r : Answer × Machine). r.1) p)

-- ---- write

pub write-refused : (table : Table) (before : List ℕ) (answer : Result ℕ Refusal) (after : List ℕ) → Writes table before answer after → (write_number answer ≡ 0 → ⊥) → after ≡ before
write-refused table before answer after w n = go (sound_in table) (leb (length (bytes_of table)) (length before)) w.answers w.buffer
  where
    go : (b c : Bool) → answer ≡ cond b (cond c (Ok (length (bytes_of table))) (Err (record { number = 14 }))) (Err (record { number = 30 })) → after ≡ cond (b && c) (bytes_of table ++ drop (length (bytes_of table)) before) before → after ≡ before
    go true true p q = absurd (n (ap write_number p))
    go true false p q = q
    go false c p q = q
