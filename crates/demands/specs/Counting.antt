-- Demand 3: what is counted. Instructions by the definition's steps; releases, terminations and tasks out.
use Rattle.std.specs.Prelude.{ℕ, ◌+◌, refl, Bool, cond, List, [], ◌∷◌, map, length, Some, None, Ok, Err}
use Rattle.std.proofs.Common.{arith, sym, ◌∙◌, ap, ap₂, subst}
use Rattle.std.proofs.Math.Path.{◌≡◌}
use Rattle.std.proofs.Math.Bool.{true, false}
use Rattle.std.proofs.Math.Option.{none, some}
use Rattle.model.specs.Clock.{Instant, early, due, missed, judged, elapsed, fits}
use Rattle.model.specs.Modules.{Module}
use Rattle.timing.specs.Calls.{Reply, reacted, View, ask, replies}
use Rattle.timing.specs.Lates.{ending_next}
use Rattle.timing.specs.Counts.{ended_out, if_reacted, releases_in, endings_in}
use Rattle.timing.proofs.Counts.{count_law}
use Rattle.timing.specs.Docks.{reply_to}
use Rattle.machine.specs.Asks.{Ask, tick, Answer, ticking, turning, finishing}
use Rattle.machine.specs.declared.Reaction.{Reaction}
use Rattle.machine.specs.declared.Reaction.TheVariants.{Obeyed, Idle, Refused, Late, Fault}
use Rattle.machine.specs.Words.{count_in}
use Rattle.machine.specs.Boards.{Board, board_of}
use Rattle.machine.specs.Instructions.{late, wild, astray, clash, Res, ok, bad, Halt, Tally}
use Rattle.machine.specs.Store.{Store, reaction}
use Rattle.machine.specs.Calls as C
use Rattle.machine.specs.Calls.{State, came_to, sensed, by_instant}
use Rattle.machine.specs.Counts.{history, opened}
use Rattle.machine.proofs.SoundLaws.{started-count-law}
use Rattle.machine.specs.Starts.{fresh, start}
use Rattle.tables.specs.declared.Table.{Table}
use Rattle.ecode.specs.Sound.{sound-holds}
use Rattle.emachine.specs.declared.Machine.{Machine}
use Rattle.emachine.specs.declared.Ticked.{Ticked}
use Rattle.emachine.specs.Machines.{board_in, state_in}
use Rattle.boards.specs.Agreement.{board-is}
use Rattle.starting.specs.Starting.{Started}
use Rattle.bridge.specs.Boards.{board}
use Rattle.bridge.proofs.Faithful as Fa
use Rattle.bridge.specs.Promises.{DueNow}
use Rattle.bridge.proofs.CountKept.{out-counted}
use Rattle.demands.specs.Uses.{Serves, Runs, Launch, Readable, module_in, first, rules, new_machine, steps_from}
use Rattle.demands.specs.Terms.{owed_after, first_owed, if_obeyed, released_in, ended_in, releases_so_far, terminations_so_far}
use Rattle.demands.specs.Joins.{all, same-board, keeps, begun-is, starts-so, state_at, Behind, behind, then, obeyed-answer}
use Rattle.demands.specs.Begins.{readable-sound}
use Rattle.demands.specs.Timing as T

-- ---- instructions

module _ (b : Board) (m : State) where
  abbrev steps : List ℕ → ℕ
  steps words = (reaction b m.aside m.mode m.pc (sensed words m.store)).tally.steps

  came-steps : (count : ℕ) (tally : Tally) (res : Res (Halt Store)) (n : ℕ) → (came_to m count tally res).answer ≡ Obeyed n → n ≡ tally.steps
  came-steps count tally (ok halt) n e = cc
  came-steps count tally (bad (late task)) n e = let z : ◌≡◌ {A = ℕ} 0 1 = cc in absurd (omega arith)
  came-steps count tally (bad wild) n e = let z : ◌≡◌ {A = ℕ} 0 1 = cc in absurd (omega arith)
  came-steps count tally (bad astray) n e = let z : ◌≡◌ {A = ℕ} 0 1 = cc in absurd (omega arith)
  came-steps count tally (bad clash) n e = let z : ◌≡◌ {A = ℕ} 0 1 = cc in absurd (omega arith)

  reacted-steps : (count : ℕ) (words : List ℕ) (n : ℕ) → (C.reacted b m count words).answer ≡ Obeyed n → n ≡ steps words
  unfolding C.reacted
  reacted-steps count words n e = came-steps count (reaction b m.aside m.mode m.pc (sensed words m.store)).tally (reaction b m.aside m.mode m.pc (sensed words m.store)).res n e

  tick-steps : (count : ℕ) (types words : List ℕ) (n : ℕ) → (C.tick b m count types words).answer ≡ Obeyed n → n ≡ steps words
  unfolding C.tick
  tick-steps count types words n e = go m.stopped (fits (C.reading_types b) types words) (judged (elapsed m.clock count) m.remaining) e
    where
      go : (stopped fit : Bool) (instant : Instant)
          → (cond {A = C.Ticked} stopped (record { answer = Refused 31; state = m }) (cond {A = C.Ticked} fit (by_instant b m count words instant) (record { answer = Refused 32; state = m }))).answer ≡ Obeyed n → n ≡ steps words
      go true fit instant e = let z : ◌≡◌ {A = ℕ} 0 1 = cc in absurd (omega arith)
      go false false instant e = let z : ◌≡◌ {A = ℕ} 0 1 = cc in absurd (omega arith)
      go false true (early left) e = let z : ◌≡◌ {A = ℕ} 0 1 = cc in absurd (omega arith)
      go false true due e = reacted-steps count words n e
      go false true missed e = let z : ◌≡◌ {A = ℕ} 0 1 = cc in absurd (omega arith)

unticked : {x y : Reaction} → ticking x ≡ ticking y → x ≡ y
unticked e = cc

-- ---- a reaction counts

held : {y r : Reply} → some y ≡ some r → y ≡ r
held e = cc

count_same : (x : Answer) (r : Reply) (n : ℕ) → reply_to x ≡ some r → if_obeyed x n ≡ if_reacted r n
count_same x r n e = go x r e
  where
    go : (x : Answer) (r : Reply) → reply_to x ≡ some r → if_obeyed x n ≡ if_reacted r n
    go (ticking (Obeyed k)) r e = ap (λ (y : Reply). if_reacted y n) (held e)
    go (ticking Idle) r e = ap (λ (y : Reply). if_reacted y n) (held e)
    go (ticking (Refused k)) r e = ap (λ (y : Reply). if_reacted y n) (held e)
    go (ticking (Late task)) r e = ap (λ (y : Reply). if_reacted y n) (held e)
    go (ticking (Fault k)) r e = let z : ◌≡◌ {A = ℕ} 0 1 = cc in absurd (omega arith)
    go (turning (Ok (Some task))) r e = ap (λ (y : Reply). if_reacted y n) (held e)
    go (turning (Ok None)) r e = ap (λ (y : Reply). if_reacted y n) (held e)
    go (turning (Err why)) r e = ap (λ (y : Reply). if_reacted y n) (held e)
    go (finishing (Ok _)) r e = ap (λ (y : Reply). if_reacted y n) (held e)
    go (finishing (Err why)) r e = ap (λ (y : Reply). if_reacted y n) (held e)

module _ (M : Module) where
  heads : {A : Type 0} {x y : A} {l r : List A} → x ∷ l ≡ y ∷ r → (x ≡ y) × (l ≡ r)
  heads e = (cc, cc)

  counts_same : (calls : List Ask) (answers : List Answer) (v : View) → map reply_to answers ≡ map some (replies M calls v)
      → (released_in M calls answers v ≡ releases_in M calls v) × (ended_in M calls answers v ≡ endings_in M calls v)
  counts_same [] answers v e = (refl, refl)
  counts_same (a ∷ calls) [] v e = let z : ◌≡◌ {A = ℕ} 0 1 = cc in absurd (omega arith)
  counts_same (a ∷ calls) (x ∷ answers) v e =
      let (p, q) = heads e in
      let (r, t) = counts_same calls answers (ask M a v).view q in (
        ap₂ (λ (i j : ℕ). i + j) (count_same x (ask M a v).reply (length (ask M a v).view.place.released) p) r,
        ap₂ (λ (i j : ℕ). i + j) (count_same x (ask M a v).reply (ended_out (ending_next M v) v.place.store.tasks) p) t,
      )

module _ (l : Launch) where
  abbrev M : Module
  M = module_in l

  -- the machine that the start begins with, by the board of the module
  steps-begun : steps (board M) (fresh (board M) l.count) l.words ≡ steps_from M (new_machine l.reading.table l.count) l.words
  steps-begun = ap (λ (b : Board). steps (board M) (fresh b l.count) l.words) (sym (same-board l))

  pub start-counts : l.begun.answer ≡ Obeyed (steps_from M (new_machine l.reading.table l.count) l.words)
  start-counts =
      let is = Fa.start_is M (keeps l) l.count l.types l.words (starts-so l) in
      let (n, q) = obeyed-answer _ (Fa.start-reacts M (keeps l) l.count l.types l.words (starts-so l)) in
      let e : (C.reacted (board M) (fresh (board M) l.count) l.count l.words).answer ≡ Obeyed n = ap (λ (t : C.Ticked). t.answer) (sym is) ∙ unticked q in
      ap (λ (t : Ticked). t.answer) (begun-is l) ∙ unticked q ∙ ap Obeyed (reacted-steps (board M) (fresh (board M) l.count) l.count l.words n e ∙ steps-begun)

  module _ (calls : List Ask) (answers : List Answer) (m : Machine) (run : Runs l.begun.machine calls answers m) where
    here : Behind l calls answers m
    here = behind l calls answers m run

    pub tick-counts : (count : ℕ) (types words : List ℕ) (x : Answer) (n : Machine) → Serves m (tick count types words) x n → (k : ℕ) → x ≡ ticking (Obeyed k) → k ≡ steps_from M m words
    tick-counts count types words x n call k e =
        let (p, q) = then l calls answers m here (tick count types words) x n call in
        tick-steps (board M) (state_at l calls) count types words k (unticked (sym p ∙ e)) ∙ ap (λ (y : Machine). steps_from M y words) (sym here.left_so)

    pub due-reacts : (count : ℕ) (types words : List ℕ) (x : Answer) (n : Machine) → Serves m (tick count types words) x n → DueNow M (state_in m) count types words
        → first_owed (ending_next M (rules l calls)) (owed_after l calls answers) ≡ none → x ≡ ticking (Obeyed (steps_from M m words))
    due-reacts count types words x n call d f =
        let (k, e) = T.due-reacts l calls answers m run count types words x n call d f in
        e ∙ ap (λ (i : ℕ). ticking (Obeyed i)) (tick-counts count types words x n call k e)

    -- releases so far, terminations of tasks that were out, tasks out by the word
    pub count_kept : releases_so_far l calls answers ≡ terminations_so_far l calls answers + count_in m.standing.out
    count_kept =
        let law = count_law M (keeps l) l.count l.words calls in
        let (r, t) = counts_same M calls answers (first l) here.replied in
        let out = out-counted M (keeps l) (state_at l calls) (rules l calls) here.near in
        let word : count_in (state_at l calls).store.out ≡ count_in m.standing.out = ap (λ (y : Machine). count_in y.standing.out) (sym here.left_so) in
        omega arith

-- ---- any table that the reader returns, by the instructions obeyed

pub count-any : (table : Table) (count : ℕ) (types words : List ℕ) (r : Ticked) → Started table count types words r → Readable table → fits (C.reading_types (board_in table)) types words ≡ true
    → (calls : List Ask) (answers : List Answer) (n : Machine) → Runs r.machine calls answers n
    → let account = history (board_in table) (opened (board_in table) count words) calls in account.releases ≡ account.terminations + count_in n.standing.out
count-any table count types words r s readable fit calls answers n run =
    let h = sound-holds table (readable-sound table readable) in
    let u = h.table in
    let same : board_in table ≡ board_of u = ap board_in (sym h.is) ∙ board-is u h.good in
    let is = s.begun u h.good h.is in
    let from = (start u count types words).state in
    let left = (all (board_of u) table same calls answers from n (subst (λ (k : Ticked). Runs k.machine calls answers n) is run)).1 in
    let law = started-count-law u count types words h.good (subst (λ (b : Board). fits (C.reading_types b) types words ≡ true) same fit) calls in
    subst (λ (b : Board). (history b (opened b count words) calls).releases ≡ (history b (opened b count words) calls).terminations + count_in n.standing.out) (sym same)
    (law ∙ ap (λ (k : Machine). (history (board_of u) (opened (board_of u) count words) calls).terminations + count_in k.standing.out) (sym left))
