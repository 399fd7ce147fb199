-- Demand 3: what bridge proves of the definitions, carried to the code's machine behind compile, read, start and any calls.
use Rattle.std.specs.Prelude.{ℕ, ◌≤◌, ◌<◌, ◌≡◌, refl, ◌⊎◌, Bool, true, false, ◌&&◌, not, List, [], ◌∷◌, map, get_or, take}
use Rattle.std.proofs.Common.{sym, ◌∙◌, ap, ap₂, subst, inl, inr}
use Rattle.std.proofs.Math.Option.{Option, none, some}
use Rattle.model.specs.Clock.{elapsed, fits}
use Rattle.model.specs.Modules.{Module}
use Rattle.timing.specs.SlotLaws.{Each}
use Rattle.timing.specs.Rules.{Standing, idle}
use Rattle.timing.specs.Calls.{Reply, reacted, View, Said, ask, replies, reading_types}
use Rattle.timing.specs.Accepted.{Accepted, ports}
use Rattle.timing.specs.Lates.{first_late, ending_next, in-time-reacts, Prompt}
use Rattle.timing.specs.Orders.{among}
use Rattle.timing.proofs.Held.{start-held}
use Rattle.timing.proofs.Counts.{start-many}
use Rattle.timing.specs.Causes.{Vary, Calm}
use Rattle.timing.proofs.Causes.{no-trace}
use Rattle.timing.specs.Docks.{Dock, reply_to}
use Rattle.machine.specs.Asks.{Ask, tick, Answer, ticking}
use Rattle.machine.specs.declared.Reaction.TheVariants.{Obeyed, Late, Fault}
use Rattle.machine.specs.Answers.{Meaning, meaning}
use Rattle.machine.specs.Words.{has}
use Rattle.machine.specs.Calls as C
use Rattle.machine.specs.Calls.{State}
use Rattle.emachine.specs.declared.Machine.{Machine}
use Rattle.emachine.specs.declared.Ticked.{Ticked}
use Rattle.emachine.specs.Machines.{state_in, machine_of}
use Rattle.bridge.specs.Boards.{board}
use Rattle.bridge.specs.Views.{stand_of, row_of, Fitting, stands}
use Rattle.bridge.specs.Docked.{asks, dock_of, Held}
use Rattle.bridge.proofs.Faithful as Fa
use Rattle.bridge.specs.Faithful.{machine_answers, begun}
use Rattle.bridge.specs.Beside.{Beside}
use Rattle.bridge.proofs.Beside.{one-call, all-calls, start-beside}
use Rattle.bridge.proofs.Promises as P
use Rattle.bridge.specs.Promises.{DueNow, standing_in, Unfaulted}
use Rattle.bridge.proofs.Promises.{tasks-same, ports-same}
use Rattle.bridge.specs.ReleasesKept.{waits}
use Rattle.bridge.proofs.ReleasesKept.{begins, machine-newly}
use Rattle.demands.specs.Uses.{Serves, Runs, Launch, module_in, first, rules, means, number, refusal, Faults, stopped}
use Rattle.demands.specs.Terms.{Same, Alike, InTime, owed_first, owed_after, first_owed}
use Rattle.demands.specs.Calling.{fault-is, fault-names, number_small}
use Rattle.demands.specs.Owed.{clear-is-prompt, owes-calls, owes-first, first-same}
use Rattle.demands.specs.Firsts.{in-time-clear, clear_first, clear-in-time}
use Rattle.demands.specs.Joins.{obeyed-answer, all, same-board, keeps, begun-is, starts-so, state_at, Behind, behind, then, shown-same}

-- ---- small things

waits-bit : (o w f : Bool) (row : List ℕ) → Fitting o w f → waits (stand_of o w f row) ≡ w
waits-bit false false f row n = refl
waits-bit false true f row n = absurd n
waits-bit true true f row n = refl
waits-bit true false true row n = refl
waits-bit true false false row n = refl

module _ (M : Module) (s : State) (H : Held M s) where
  stands-so : (j : ℕ) → standing_in M s j ≡ stand_of (has s.store.out j) (has s.store.waiting j) (has s.store.finished j) (row_of M s.aside j)
  stands-so j = stands M s.aside s.store.out s.store.waiting s.store.finished H.neat j

  waits-so : (j : ℕ) → waits (standing_in M s j) ≡ has s.store.waiting j
  waits-so j = ap waits (stands-so j) ∙ waits-bit (has s.store.out j) (has s.store.waiting j) (has s.store.finished j) (row_of M s.aside j) (H.neat.fits j)

-- what holds of each answer as one of a call
each-answer : (P Q : Answer → Type 0) → ((m : Machine) (a : Ask) (x : Answer) (n : Machine) → Serves m a x n → P x → Q x) → (calls : List Ask) (answers : List Answer) (m n : Machine) → Runs m calls answers n → Each P answers → Each Q answers
each-answer P Q f [] [] m n r w = tt
each-answer P Q f [] (x ∷ answers) m n r w = absurd r
each-answer P Q f (a ∷ calls) [] m n r w = absurd r
each-answer P Q f (a ∷ calls) (x ∷ answers) m n (k, (c, r)) w = (f m a x k c w.0, each-answer P Q f calls answers k n r w.1)

unfaulted : (M : Module) (m : Machine) (a : Ask) (x : Answer) (n : Machine) → Serves m a x n → Unfaulted M x → Faults x → ⊥
unfaulted M m a x n e u f = go (fault-is m a x n e f)
  where
    go : ((task : ℕ) × (x ≡ ticking (Late task))) ⊎ ((k : ℕ) × (x ≡ ticking (Fault k))) → ⊥
    go (inl (task, q)) = u.not_late task q
    go (inr (k, q)) = u.not-wild k q

-- answers from any place on
answers-beside : (M : Module) (W : Accepted M) (calls : List Ask) (s : State) (v : View) → Beside M W s v → map reply_to (machine_answers M calls s) ≡ map some (replies M calls v)
answers-beside M W [] s v b = refl
answers-beside M W (a ∷ calls) s v b =
    let c = one-call M W a s v b in
    ap₂ (λ (x : Option Reply) (l : List (Option Reply)). x ∷ l) c.says (answers-beside M W calls (asks M a s).state (ask M a v).view c.then)

-- ---- the start

module _ (l : Launch) where
  begun-machine : l.begun.machine ≡ machine_of l.reading.table (state_at l [])
  begun-machine = ap (λ (x : Ticked). x.machine) (begun-is l)

  beginning : Beside (module_in l) (keeps l) (state_at l []) (first l)
  beginning = start-beside (module_in l) (keeps l) l.count l.types l.words (starts-so l)

  pub start-shows : Same (module_in l) l.begun.machine (first l)
  start-shows = subst (λ (m : Machine). Same (module_in l) m (first l)) (sym begun-machine) (shown-same (module_in l) (keeps l) l.reading.table (state_at l []) (first l) beginning)

  pub start-releases : (j : ℕ) → among j (first l).place.released ≡ has l.begun.machine.standing.waiting j
  start-releases j =
      sym (begins waits refl (λ r. refl) refl (module_in l) (keeps l) l.count l.words j)
      ∙ ap (λ (t : List Standing). waits (get_or t j idle)) (sym (tasks-same (module_in l) (keeps l) (state_at l []) (first l) beginning))
      ∙ waits-so (module_in l) (state_at l []) beginning.held j
      ∙ ap (λ (m : Machine). has m.standing.waiting j) (sym begun-machine)

  -- ---- any calls

  module _ (calls : List Ask) (answers : List Answer) (m : Machine) (run : Runs l.begun.machine calls answers m) where
    abbrev M : Module
    M = module_in l

    abbrev s : State
    s = state_at l calls

    here : Behind l calls answers m
    here = behind l calls answers m run

    pub in-time-is : (InTime l calls answers → Prompt M calls (first l)) × (Prompt M calls (first l) → InTime l calls answers)
    in-time-is =
        let both = clear-is-prompt M (keeps l) calls answers (first l) (owed_first l) (start-held M (keeps l) l.count l.words).1 (start-many M (keeps l) l.count l.words) (owes-first M (keeps l) l.count l.words) here.replied in (
          (λ t. both.0 (in-time-clear M (keeps l) calls answers (first l) (owed_first l) t.started-ones t.later_ones)),
          (λ p. record { started-ones = clear_first M (keeps l) calls answers (first l) (owed_first l) (both.1 p); later_ones = clear-in-time M (keeps l) calls answers (first l) (owed_first l) (both.1 p) }),
        )

    pub no-fault : InTime l calls answers → Each (λ x. Faults x → ⊥) answers × (m.standing.stopped ≡ false)
    no-fault c =
        let p = P.in-time M (keeps l) l.count l.types l.words (starts-so l) calls (in-time-is.0 c) in
        (each-answer (Unfaulted M) (λ x. Faults x → ⊥) (unfaulted M) calls answers l.begun.machine m run (subst (Each (Unfaulted M)) (sym here.answered-so) p.no-faults), ap (λ (k : Machine). k.standing.stopped) here.left_so ∙ p.goes_on)

    pub no-other-fault : Each (λ x. number x ≤ 40) answers
    no-other-fault =
        each-answer (λ x. (k : ℕ) → x ≡ ticking (Fault k) → ⊥) (λ x. number x ≤ 40) number_small calls answers l.begun.machine m run
        (subst (Each (λ x. (k : ℕ) → x ≡ ticking (Fault k) → ⊥)) (sym here.answered-so) (Fa.no-wild-fault M (keeps l) l.count l.types l.words (starts-so l) calls))

    pub shows : Same M m (rules l calls)
    shows = subst (λ (k : Machine). Same M k (rules l calls)) (sym here.left_so) (shown-same M (keeps l) l.reading.table s (rules l calls) here.near)

    pub answers-are : map reply_to answers ≡ map some (replies M calls (first l))
    answers-are = here.replied

    -- a task that is owed is late by the rules
    late-same : first_owed (ending_next M (rules l calls)) (owed_after l calls answers) ≡ first_late (ending_next M (rules l calls)) (dock_of M s).store.tasks
    late-same =
        first-same M (keeps l) (ending_next M (rules l calls)) (rules l calls).place.store.tasks (owed_after l calls answers)
        (owes-calls M (keeps l) calls answers (first l) (owed_first l) (start-held M (keeps l) l.count l.words).1 (start-many M (keeps l) l.count l.words) (owes-first M (keeps l) l.count l.words) here.replied)
        ∙ ap (first_late (ending_next M (rules l calls))) (sym (tasks-same M (keeps l) s (rules l calls) here.near))

    module _ (a : Ask) (x : Answer) (n : Machine) (call : Serves m a x n) where
      on : (x ≡ (asks M a s).answer) × (n ≡ machine_of l.reading.table (asks M a s).state)
      on = then l calls answers m here a x n call

      next-to : Beside M (keeps l) (asks M a s).state (ask M a (rules l calls)).view
      next-to = (one-call M (keeps l) a s (rules l calls) here.near).then

      pub releases : (steps : ℕ) → x ≡ ticking (Obeyed steps) → (j : ℕ) → among j (ask M a (rules l calls)).view.place.released ≡ (has n.standing.waiting j && not (has m.standing.waiting j))
      releases steps e j =
          let q : reply_to (asks M a s).answer ≡ some reacted = ap reply_to (sym on.0 ∙ e) in
          let after : waits (standing_in M (asks M a s).state j) ≡ has n.standing.waiting j = waits-so M (asks M a s).state next-to.held j ∙ ap (λ (k : Machine). has k.standing.waiting j) (sym on.1) in
          let before : waits (standing_in M s j) ≡ has m.standing.waiting j = waits-so M s here.near.held j ∙ ap (λ (k : Machine). has k.standing.waiting j) (sym here.left_so) in
          machine-newly M (keeps l) l.count l.types l.words (starts-so l) calls a q j ∙ ap₂ (λ (u v : Bool). u && not v) after before

      pub late-only : (task : ℕ) → means x ≡ meaning 40 0 (some task) → first_owed (ending_next M (rules l calls)) (owed_after l calls answers) ≡ some task
      late-only task e =
          let (t, q) = fault-names m a x n call (ap (λ (y : Meaning). y.number) e) in
          let p : some t ≡ some task = sym (ap (λ (y : Answer). (means y).task) q) ∙ ap (λ (y : Meaning). y.task) e in
          let r : t ≡ task = cc in
          late-same ∙ P.late-only M (keeps l) l.count l.types l.words (starts-so l) calls a task (sym on.0 ∙ q ∙ ap (λ (k : ℕ). ticking (Late k)) r)

    module _ (count : ℕ) (types words : List ℕ) (x : Answer) (n : Machine) (call : Serves m (tick count types words) x n) where
      pub late-named : (task : ℕ) → DueNow M (state_in m) count types words → first_owed (ending_next M (rules l calls)) (owed_after l calls answers) ≡ some task → (means x ≡ meaning 40 0 (some task)) × (n ≡ stopped 40 task m)
      late-named task d f =
          let o = on (tick count types words) x n call in
          let d1 : DueNow M s count types words = subst (λ (k : Machine). DueNow M (state_in k) count types words) here.left_so d in
          let r = P.late-named M (keeps l) l.count l.types l.words (starts-so l) calls count types words task d1 (sym late-same ∙ f) in
          (ap means (o.0 ∙ r.answers), o.1 ∙ ap (machine_of l.reading.table) r.leaves ∙ ap (stopped 40 task) (sym here.left_so))

      -- a due tick with nobody owed whose slot ends is a reaction
      pub due-reacts : DueNow M (state_in m) count types words → first_owed (ending_next M (rules l calls)) (owed_after l calls answers) ≡ none → (steps : ℕ) × (x ≡ ticking (Obeyed steps))
      due-reacts d f =
          let v = rules l calls in
          let o = on (tick count types words) x n call in
          let d1 : DueNow M s count types words = subst (λ (k : Machine). DueNow M (state_in k) count types words) here.left_so d in
          let g : first_late (ending_next M v) v.place.store.tasks ≡ none = ap (first_late (ending_next M v)) (sym (tasks-same M (keeps l) s v here.near)) ∙ sym late-same ∙ f in
          let said = (in-time-reacts M v count types words (P.due-same M (keeps l) s v here.near count types words d1) g).2 in
          let r : reply_to (asks M (tick count types words) s).answer ≡ some reacted = (one-call M (keeps l) (tick count types words) s v here.near).says ∙ ap (λ (y : Said). some y.reply) said in
          let (k, q) = obeyed-answer (asks M (tick count types words) s).answer r in
          (k, o.0 ∙ q)

      pub missed : m.standing.stopped ≡ false → fits (reading_types M) types words ≡ true → m.standing.remaining < elapsed m.standing.clock count → (means x ≡ refusal 33) × (n ≡ m)
      missed live fit past =
          let o = on (tick count types words) x n call in
          let e = here.left_so in
          let live1 : s.stopped ≡ false = ap (λ (k : Machine). k.standing.stopped) (sym e) ∙ live in
          let past1 : s.remaining < elapsed s.clock count = subst (λ (k : Machine). k.standing.remaining < elapsed k.standing.clock count) e past in
          let r = (P.missed M (keeps l) l.count l.types l.words (starts-so l) calls count types words live1 fit past1).refuses in
          (ap means o.0 ∙ ap (λ (t : C.Ticked). means (ticking t.answer)) r, o.1 ∙ ap (λ (t : C.Ticked). machine_of l.reading.table t.state) r ∙ sym e)

    -- ---- results whose slot has not ended

    pub unseen : (tasks : ℕ → Bool) (one other : List Ask) (answers₁ answers₂ : List Answer) (n₁ n₂ : Machine) → Runs m one answers₁ n₁ → Runs m other answers₂ n₂
        → Vary M tasks one other → Calm M tasks one (rules l calls) → Alike M answers₁ n₁ answers₂ n₂
    unseen tasks one other answers₁ answers₂ n₁ n₂ r₁ r₂ w c =
        let e = here.left_so in
        let t = l.reading.table in
        let (p₁, q₁) = all (board M) t (same-board l) one answers₁ s n₁ (subst (λ (k : Machine). Runs k one answers₁ n₁) e r₁) in
        let (p₂, q₂) = all (board M) t (same-board l) other answers₂ s n₂ (subst (λ (k : Machine). Runs k other answers₂ n₂) e r₂) in
        let h = no-trace M tasks one other (rules l calls) w c in
        let b₁ = all-calls M (keeps l) one s (rules l calls) here.near in
        let b₂ = all-calls M (keeps l) other s (rules l calls) here.near in
        record {
          same-answers =
              ap (map reply_to) p₂ ∙ answers-beside M (keeps l) other s (rules l calls) here.near ∙ ap (λ (x : List Reply). map some x) h.same-replies
              ∙ sym (ap (map reply_to) p₁ ∙ answers-beside M (keeps l) one s (rules l calls) here.near);
          same-mode = ap (λ (k : Machine). k.standing.mode) q₂ ∙ ap (λ (d : Dock). d.mode) b₂.shown ∙ h.same-mode ∙ sym (ap (λ (k : Machine). k.standing.mode) q₁ ∙ ap (λ (d : Dock). d.mode) b₁.shown);
          same-ports =
              ap (λ (k : Machine). take (ports M) k.ports) q₂ ∙ ports-same M (keeps l) _ _ b₂ ∙ h.same-ports
              ∙ sym (ap (λ (k : Machine). take (ports M) k.ports) q₁ ∙ ports-same M (keeps l) _ _ b₁);
        }
