-- The code's calls, by their contracts, are the definitions' on the module of the text: compile, read, start, and any list of calls.
use Rattle.std.specs.Prelude.{ℕ, ◌≡◌, Bool, cond, length, get_or, take, drop, eqb, Some, None, Ok, Err}
use native.Mathlib.Omega.{arith}
use Rattle.std.proofs.Math.Path.{refl, ap}
use Rattle.std.proofs.Common.{sym, ◌∙◌, ap₂, subst, take_at, eqb-true}
use Rattle.std.proofs.Math.Bool.{true, false}
use Rattle.std.proofs.Math.Option.{Option, none, some}
use mathlib.Core.List.{List, [], ◌∷◌, ◌++◌, map}
use Rattle.model.specs.Modules.{Module}
use Rattle.model.specs.Clock.{fits}
use Rattle.file.specs.Files.{read, decode, sound}
use Rattle.file.specs.declared.ReadAnswer.TheVariants.{Read}
use Rattle.timing.specs.Rules.{idle}
use Rattle.timing.specs.Calls as R
use Rattle.timing.specs.Calls.{reacted, View, replies}
use Rattle.timing.specs.Accepted.{Accepted}
use Rattle.timing.specs.PortsAfter.{Aimed}
use Rattle.timing.specs.Docks.{reply_to, Dock}
use Rattle.timing.specs.Histories.{stop_of}
use Rattle.machine.specs.Asks.{Ask, tick, next, finish, Answer, ticking, turning, finishing}
use Rattle.machine.specs.declared.Reaction.{Reaction}
use Rattle.machine.specs.declared.Reaction.TheVariants.{Obeyed, Idle, Refused, Late, Fault}
use Rattle.machine.specs.Asks as A
use Rattle.machine.specs.Boards.{Board}
use Rattle.machine.specs.Instructions as E
use Rattle.machine.specs.Calls as C
use Rattle.machine.specs.Calls.{State}
use Rattle.machine.specs.Starts.{start, no_machine}
use Rattle.calls.specs.declared.Standing.{Standing as Where}
use Rattle.tables.specs.declared.Table.{Table}
use Rattle.layout.specs.Plain.{struct_of}
use Rattle.reading.specs.declared.Reading.{Reading}
use Rattle.reading.specs.Readings.{reading_of}
use Rattle.emachine.specs.declared.Machine.{Machine}
use Rattle.emachine.specs.declared.Ticked.{Ticked}
use Rattle.emachine.specs.declared.Handed.{Handed}
use Rattle.emachine.specs.declared.Finished.{Finished}
use Rattle.emachine.specs.Machines.{board_in, machine_of, ticked_on, finished_on}
use Rattle.boards.specs.Agreement.{board-is}
use Rattle.prescribed.specs.Tables.{table_of}
use Rattle.prescribed.specs.Compiled.{Written}
use Rattle.prescribed.specs.Compiles.{Compiling, file, refused, compile_of}
use Rattle.prescribed.specs.Answers.{answered, buffered}
use Rattle.accepted.specs.Compiled.{compiled-accepted, compiled-aimed, compiled-sound, compiled-reads}
use Rattle.bridge.specs.Boards.{board, board-readings}
use Rattle.bridge.specs.Views.{stands}
use Rattle.bridge.specs.Docked.{asks, fault_by, stop_by}
use Rattle.bridge.specs.Faithful.{machine_answers, machine_leaves, Started, begun}
use Rattle.bridge.proofs.Faithful.{faithful}
use Rattle.bridge.specs.Beside.{Beside}
use Rattle.bridge.proofs.Beside.{beside}
use Rattle.demands.specs.Uses.{Serves, Runs, Launch, number, Refuses, module_in, first, rules}
use Rattle.demands.specs.Terms.{Halted, Same}

-- ---- an answer that is a reaction

pub obeyed-answer : (x : Answer) → reply_to x ≡ some reacted → (n : ℕ) × (x ≡ ticking (Obeyed n))
obeyed-answer (ticking (Obeyed n)) e = (n, refl)
obeyed-answer (ticking Idle) e = let z : ◌≡◌ {A = ℕ} 0 1 = cc in absurd (omega arith)
obeyed-answer (ticking (Refused k)) e = let z : ◌≡◌ {A = ℕ} 0 1 = cc in absurd (omega arith)
obeyed-answer (ticking (Late task)) e = let z : ◌≡◌ {A = ℕ} 0 1 = cc in absurd (omega arith)
obeyed-answer (ticking (Fault k)) e = let z : ◌≡◌ {A = ℕ} 0 1 = cc in absurd (omega arith)
obeyed-answer (turning (Ok (Some task))) e = let z : ◌≡◌ {A = ℕ} 0 1 = cc in absurd (omega arith)
obeyed-answer (turning (Ok None)) e = let z : ◌≡◌ {A = ℕ} 0 1 = cc in absurd (omega arith)
obeyed-answer (turning (Err why)) e = let z : ◌≡◌ {A = ℕ} 0 1 = cc in absurd (omega arith)
obeyed-answer (finishing (Ok _)) e = let z : ◌≡◌ {A = ℕ} 0 1 = cc in absurd (omega arith)
obeyed-answer (finishing (Err why)) e = let z : ◌≡◌ {A = ℕ} 0 1 = cc in absurd (omega arith)

pub obeyed-number : (x : Answer) → reply_to x ≡ some reacted → number x ≡ 0
obeyed-number x e = let (n, q) = obeyed-answer x e in ap number q

-- ---- calls

module _ (b : Board) (t : Table) (same : board_in t ≡ b) where
  pub one : (a : Ask) (x : Answer) (s : State) (n : Machine) → Serves (machine_of t s) a x n → (x ≡ (A.asks b a s).answer) × (n ≡ machine_of t (A.asks b a s).state)
  one (tick count types words) (ticking x) s n e =
      let q : ◌≡◌ {A = Ticked} (record { answer = x; machine = n }) (ticked_on t (C.tick b s count types words)) = e ∙ ap (λ (y : Board). ticked_on t (C.tick y s count types words)) same in
      (ap (λ (r : Ticked). ticking r.answer) q, ap (λ (r : Ticked). r.machine) q)
  one (tick count types words) (turning x) s n e = absurd e
  one (tick count types words) (finishing x) s n e = absurd e
  one next (ticking x) s n e = absurd e
  one next (turning x) s n e = (ap (λ (r : Handed). turning r.answer) e, ap (λ (r : Handed). r.machine) e)
  one next (finishing x) s n e = absurd e
  one (finish task types words) (ticking x) s n e = absurd e
  one (finish task types words) (turning x) s n e = absurd e
  one (finish task types words) (finishing x) s n e =
      let q : ◌≡◌ {A = Finished} (record { answer = x; machine = n }) (finished_on t (C.finish b s task types words)) = e ∙ ap (λ (y : Board). finished_on t (C.finish y s task types words)) same in
      (ap (λ (r : Finished). finishing r.answer) q, ap (λ (r : Finished). r.machine) q)

  pub all : (calls : List Ask) (answers : List Answer) (s : State) (n : Machine) → Runs (machine_of t s) calls answers n → (answers ≡ A.answers b calls s) × (n ≡ machine_of t (A.behind b calls s))
  all [] [] s n r = (refl, r)
  all [] (x ∷ answers) s n r = absurd r
  all (a ∷ calls) [] s n r = absurd r
  all (a ∷ calls) (x ∷ answers) s n (k, (c, r)) =
      let (p, q) = one a x s k c in
      let (ps, qs) = all calls answers (A.asks b a s).state n (subst (λ (m : Machine). Runs m calls answers n) q r) in
      (ap₂ (λ (y : Answer) (l : List Answer). y ∷ l) p ps, qs)

-- ---- compile, read, start

-- what `compile` did where it answers that it has written
pub record Wrote (text before : List ℕ) (size : ℕ) (after : List ℕ) : Type 0 where
  pub content : List ℕ
  pub is : compile_of text (length before) ≡ file content
  pub long : length content ≡ size
  pub front : take size after ≡ content
  pub behind : after ≡ content ++ drop size before

pub wrote : (text before : List ℕ) (size : ℕ) (after : List ℕ) → Written size ≡ answered (compile_of text (length before)) → after ≡ buffered before (compile_of text (length before)) → Wrote text before size after
wrote text before size after p q = go (compile_of text (length before)) refl p q
  where
    go : (c : Compiling) → compile_of text (length before) ≡ c → Written size ≡ answered c → after ≡ buffered before c → Wrote text before size after
    go (file content) e p q =
        let n : length content ≡ size = cc in
        record { content = content; is = e; long = n; front = ap (take size) q ∙ take_at content (drop (length content) before) size n; behind = q ∙ ap (λ (k : ℕ). content ++ drop k before) n }
    go (refused number at) e p q = let z : ◌≡◌ {A = ℕ} 0 1 = cc in absurd (omega arith)

module _ (l : Launch) where
  abbrev M : Module
  M = module_in l

  pub made : Wrote l.text l.before l.size l.after
  made = wrote l.text l.before l.size l.after l.compiles.answers l.compiles.buffer

  pub keeps : Accepted M
  keeps = compiled-accepted l.text (length l.before) made.content made.is

  pub aims : Aimed M
  aims = compiled-aimed l.text (length l.before) made.content made.is

  pub good : sound (table_of M) ≡ true
  good = compiled-sound l.text (length l.before) made.content made.is

  pub reading-is : l.reading ≡ record { answer = Read; table = struct_of (table_of M) }
  reading-is =
      l.reads ∙ ap (λ (bytes : List ℕ). reading_of (decode bytes)) made.front
      ∙ ap reading_of (compiled-reads l.text (length l.before) made.content made.is)

  pub table_is : l.reading.table ≡ struct_of (table_of M)
  table_is = ap (λ (r : Reading). r.table) reading-is

  pub same-board : board_in l.reading.table ≡ board M
  same-board = ap board_in table_is ∙ board-is (table_of M) good

  pub begun-is : l.begun ≡ ticked_on l.reading.table (start (table_of M) l.count l.types l.words)
  begun-is = l.starts.begun (table_of M) good (sym table_is)

  pub fitting : fits (R.reading_types M) l.types l.words ≡ true
  unfolding start
  fitting = go (fits (C.reading_types (board M)) l.types l.words) refl
    where
      go : (b : Bool) → fits (C.reading_types (board M)) l.types l.words ≡ b → fits (R.reading_types M) l.types l.words ≡ true
      go true e = ap (λ (w : List ℕ). fits w l.types l.words) (sym (board-readings M)) ∙ e
      go false e =
          let q : start (table_of M) l.count l.types l.words ≡ record { answer = Refused 32; state = no_machine } = rw (good, e) refl in
          let a : l.begun.answer ≡ Refused 32 = ap (λ (r : Ticked). r.answer) begun-is ∙ ap (λ (r : C.Ticked). r.answer) q in
          absurd (l.accepted (subst (λ (x : Reaction). Refuses (ticking x)) (sym a) (omega arith, omega arith)))

  pub starts-so : Started M keeps l.count l.types l.words
  starts-so = record { readable = good; readings = fitting }

  abbrev pub state_at : List Ask → State
  state_at calls = machine_leaves M calls (begun M keeps l.count l.types l.words)

  -- any list of calls
  pub record Behind (calls : List Ask) (answers : List Answer) (m : Machine) : Type 0 where
    pub answered-so : answers ≡ machine_answers M calls (begun M keeps l.count l.types l.words)
    pub left_so : m ≡ machine_of l.reading.table (state_at calls)
    pub replied : map reply_to answers ≡ map some (replies M calls (first l))
    pub near : Beside M keeps (state_at calls) (rules l calls)

  pub behind : (calls : List Ask) (answers : List Answer) (m : Machine) → Runs l.begun.machine calls answers m → Behind calls answers m
  behind calls answers m r =
      let (p, q) = all (board M) l.reading.table same-board calls answers (begun M keeps l.count l.types l.words) m
      (subst (λ (k : Machine). Runs k calls answers m) (ap (λ (x : Ticked). x.machine) begun-is) r) in
      record {
        answered-so = p;
        left_so = q;
        replied = ap (map reply_to) p ∙ (faithful M keeps l.count l.types l.words starts-so calls).answers-are;
        near = beside M keeps l.count l.types l.words starts-so calls;
      }

  -- one call more
  pub then : (calls : List Ask) (answers : List Answer) (m : Machine) → Behind calls answers m → (a : Ask) (x : Answer) (n : Machine) → Serves m a x n
      → (x ≡ (asks M a (state_at calls)).answer) × (n ≡ machine_of l.reading.table (asks M a (state_at calls)).state)
  then calls answers m b a x n c = one (board M) l.reading.table same-board a x (state_at calls) n (subst (λ (k : Machine). Serves k a x n) b.left_so c)

-- ---- what is shown

halts : (o : Option ℕ) (b : Bool) (f t : ℕ) → stop_by b f t ≡ stop_of o → (at : Where) → at.stopped ≡ b → at.fault ≡ f → at.late ≡ t → Halted o at
halts none false f t e at p q r = p
halts none true f t e at p q r = let z : ◌≡◌ {A = ℕ} 0 1 = cc in absurd (omega arith)
halts (some k) false f t e at p q r = let z : ◌≡◌ {A = ℕ} 0 1 = cc in absurd (omega arith)
halts (some k) true f t e at p q r =
    let n : fault_by f t ≡ E.late k = cc in
    let (u, v) = go (eqb f 40) refl (eqb f 41) (eqb f 42) n in
    (p, (q ∙ u, r ∙ v))
  where
    go : (b : Bool) → eqb f 40 ≡ b → (c d : Bool) → cond b (E.late t) (cond c E.wild (cond d E.astray E.clash)) ≡ E.late k → (f ≡ 40) × (t ≡ k)
    go true e c d n = (eqb-true f 40 e, cc)
    go false e true d n = let z : ◌≡◌ {A = ℕ} 0 1 = cc in absurd (omega arith)
    go false e false true n = let z : ◌≡◌ {A = ℕ} 0 1 = cc in absurd (omega arith)
    go false e false false n = let z : ◌≡◌ {A = ℕ} 0 1 = cc in absurd (omega arith)

pub shown-same : (M : Module) (W : Accepted M) (t : Table) (s : State) (v : View) → Beside M W s v → Same M (machine_of t s) v
shown-same M W t s v b =
    let e = b.shown in
    record {
      clock = ap (λ (d : Dock). d.clock) e;
      remaining = ap (λ (d : Dock). d.remaining) e;
      mode = ap (λ (d : Dock). d.mode) e;
      ports-are = ap (λ (d : Dock). d.store.ports) e;
      tasks-are = λ j. sym (stands M s.aside s.store.out s.store.waiting s.store.finished b.held.neat j) ∙ ap (λ (d : Dock). get_or d.store.tasks j idle) e;
      halted = halts v.stopped s.stopped s.fault s.late (ap (λ (d : Dock). d.stopped) e) (machine_of t s).standing refl refl refl;
    }
