-- One reaction of the machine over standings is one instant of the rules.
use Prim.Native.Nat.{ℕ, suc, ◌+◌, ◌-◌, ◌≤◌, ◌<◌}
use Rattle.std.proofs.Common.{arith, sym, ◌∙◌, eq-eqb, ne_eqb}
use Rattle.std.specs.Prelude.{◌≡◌, Bool, cond, eqb}
use Rattle.std.proofs.Math.Path.{refl, ap, subst}
use Rattle.std.proofs.Math.Option.{Option, none, some}
use mathlib.Core.List.{List, [], ◌∷◌, ◌++◌, append_assoc}
use Rattle.std.proofs.Math.ListN.{length, drop, length-append}
use Rattle.model.specs.Modules.{Module, Mode}
use Rattle.model.specs.Instructions.{Instr, jump}
use Rattle.timing.specs.Slots.{closing, opening}
use Rattle.timing.specs.Rules as R
use Rattle.timing.specs.Rules.{Store, Outcome, well, late, Place, mode_at, next_instant, chosen, terminations, sensed, entered, turned, after_ends, instant}
use Rattle.timing.specs.InstantLaws.{first-instant, instants-cons}
use Rattle.timing.specs.Accepted.{Accepted}
use Rattle.timing.specs.Code.{code_of, begins_of, mode_code, front, later_blocks, instants_of, first_or}
use Rattle.machine.specs.Instructions as E
use Rattle.machine.specs.Instructions.{Fault, Res, ok, bad, Halt, Run, no_tally, step, exec}
use Rattle.timing.specs.Stands.{stand_ops, acts, update, acts-updates, with_ports}
use Rattle.timing.specs.Runs.{Ends, stepped}
use Rattle.timing.specs.Tasks.{Idle, Free, updates-keep}
use Rattle.timing.proofs.Blocks.{front-run, front-late, back-ends}
use Rattle.timing.specs.Syncs.{base, at, code, first_distance, begin_block, size, Sync, behind_front, back_block, last_blocks}
use Rattle.timing.proofs.Syncs.{begun, within, begin-size, room, driving, fresh, block_here, back-here, block-high, advance, advance-soon}
use Rattle.timing.specs.Outs.{Quiet, quiet-after, free-begin, nobody-switch, nobody-wrap, free-inside, quiet-inside}
use Rattle.timing.specs.Reacts.{Agrees, Follows, begin_halt, reacting}

module _ (M : Module) where
  -- a run of c instructions, not more than the code holds
  meets : (a : Outcome Place) (pc k c : ℕ) (s : Store) (o : Res (Halt Store)) (l : List Instr) → drop pc (code M) ≡ l → Ends M (begins_of M) (code_of M) l k none s c o → c ≤ length (code M) → (Agrees M) a o → (Agrees M) a ((reacting M) k pc s).res
  meets a pc k c s o l h e le g =
      subst ((Agrees M) a) (sym (subst (λ (x : List Instr). (exec (stand_ops M) (begins_of M) (code_of M) (length (code_of M)) x k none no_tally s).res ≡ o) (sym h) (e.run (length (code M)) no_tally le))) g

  -- The block at pc begins with the front of its time.
  at_front : (k time pc t : ℕ) (S : Sync M k time pc) → next_instant (mode_at M k) time ≡ t
      → (r : List Instr) × (drop pc (code M) ≡ front (base M k) (mode_at M k) t pc ++ r) × (pc + length (front (base M k) (mode_at M k) t pc) ≤ at M k + size M k)
  unfolding later_blocks
  at_front k time pc t S et = go S.left refl
    where
      m : Mode
      m = mode_at M k

      go : (ts : List ℕ) → S.left ≡ ts → (r : List Instr) × (drop pc (code M) ≡ front (base M k) (mode_at M k) t pc ++ r) × (pc + length (front (base M k) (mode_at M k) t pc) ≤ at M k + size M k)
      go [] e =
          let et1 : t ≡ m.period = sym et ∙ S.soon ∙ ap (first_or m.period) e in
          let h : pc + length (front (base M k) m m.period pc ++ (jump (at M k) ∷ [])) ≤ at M k + size M k = rw e at S.high in
          let l = length-append (front (base M k) m m.period pc) (jump (at M k) ∷ []) in
          rw et1 ((jump (at M k) ∷ []) ++ S.rest, (rw e at S.here) ∙ append_assoc (front (base M k) m m.period pc) (jump (at M k) ∷ []) S.rest, omega arith)
      go (t1 ∷ later) e =
          let et1 : t ≡ t1 = sym et ∙ S.soon ∙ ap (first_or m.period) e in
          let h = block-high M k time pc S t1 later e in
          rw et1 (_, block_here M k time pc S t1 later e, omega arith)

module _ (M : Module) (W : Accepted M) where
  land : (j : ℕ) → j < length M.modes → (s : Store) → Free (opening (mode_at M j).period 0 (mode_at M j).calls) s
      → Ends M (begins_of M) (code_of M) (drop (at M j) (code M)) j none s (length (begin_block M j)) (ok (begin_halt M j s))
  unfolding mode_code
  land j h s f =
      let (r, q) = begun M j h in
      let blocks = later_blocks (base M j) (mode_at M j) (at M j) (instants_of (mode_at M j)) (at M j + length (begin_block M j)) in
      let q1 : drop (at M j) (code M) ≡ begin_block M j ++ (blocks ++ r) = q ∙ append_assoc (begin_block M j) blocks r in
      subst (λ (l : List Instr). Ends M (begins_of M) (code_of M) l j none s (length (begin_block M j)) (ok (begin_halt M j s))) (sym q1)
      (back-ends M (begins_of M) (code_of M) (base M j) (mode_at M j) (driving M W j h) 0 j (first_distance M j) (at M j) s (blocks ++ r) q1 f)

  landed : (j : ℕ) → j < length M.modes → (s : Store) → ((i : ℕ) → Idle s i) → Follows M (entered M j 0 s) (begin_halt M j s)
  unfolding entered instants_of
  landed j h s q =
      let e = first-instant (mode_at M j).period (mode_at M j) 0 (W.modes j h).lasting.lasts in
      record { same-mode = refl; same_store = refl; sync = fresh M W j h; delay = omega arith; quiet = quiet-after M W j 0 h s (λ i _. q i) }

  -- The cases of a reaction at t, the next instant.
  module _ (k time pc t : ℕ) (S : Sync M k time pc) (et : next_instant (mode_at M k) time ≡ t) (s : Store) (Q : Quiet M k time s) where
    abbrev m : Mode
    m = mode_at M k

    abbrev p : ℕ
    p = (mode_at M k).period

    abbrev front_here : List Instr
    front_here = front (base M k) (mode_at M k) t pc

    case-late : (x : ℕ) → terminations M (closing p t m.calls) s ≡ late x → Agrees M (late x) (reacting M k pc s).res
    case-late x q =
        let (r, h, hi) = at_front M k time pc t S et in
        let b = within M k S.known in
        meets M (late x) pc k (length front_here) s (bad (E.late x)) (front_here ++ r) h (front-late M (begins_of M) (code_of M) (base M k) m (driving M W k S.known) t k pc s x r none q) (omega arith) refl

    module _ (s1 : Store) (q1 : terminations M (closing p t m.calls) s ≡ well s1) (s2 : Store) (q2 : acts M (update M) (closing p t m.updates) s1 ≡ s2) where
      same : s2.tasks ≡ s1.tasks
      same = rw (← q2) (updates-keep M (closing p t m.updates) s1)

      case-switch : (j : ℕ) → chosen M (closing p t m.switches) s2.ports ≡ some j → Agrees M (well (entered M j 0 s2)) (reacting M k pc s).res
      case-switch j q3 =
          let (lt, nobody) = nobody-switch M W k time t S.known S.before et s s1 s2 Q q1 same j q3 in
          let (r, h, hi) = at_front M k time pc t S et in
          meets M (well (entered M j 0 s2)) pc k (length front_here + length (begin_block M j)) s (ok (begin_halt M j s2)) (front_here ++ r) h
          (front-run M (begins_of M) (code_of M) (base M k) m (driving M W k S.known) t k pc s s1 r none (length (begin_block M j)) (ok (begin_halt M j s2)) h q1 s2 q2 (some j) q3 (land j lt s2 (free-begin M W j lt s2 nobody)))
          (room M k j pc (length front_here) S.known lt S.low hi)
          (landed j lt s2 nobody)

      module _ (q3 : chosen M (closing p t m.switches) s2.ports ≡ none) where
        case-wrap : S.left ≡ [] → t ≡ p → Agrees M (well (entered M k 0 s2)) (reacting M k pc s).res
        unfolding later_blocks exec
        case-wrap e et1 =
            let nobody = nobody-wrap M W k time t S.known S.before et s s1 s2 Q q1 same et1 in
            let end_front = front (base M k) m p pc in
            let h0 : drop pc (code M) ≡ (end_front ++ (jump (at M k) ∷ [])) ++ S.rest = rw e at S.here in
            let h : drop pc (code M) ≡ front_here ++ (jump (at M k) ∷ S.rest) = rw et1 (h0 ∙ append_assoc end_front (jump (at M k) ∷ []) S.rest) in
            let hi0 : pc + length (end_front ++ (jump (at M k) ∷ [])) ≤ at M k + size M k = rw e at S.high in
            let hi : pc + (length front_here + 1) ≤ at M k + size M k = rw et1 (let l = length-append end_front (jump (at M k) ∷ []) in omega arith) in
            let rm = room M k k pc (length front_here + 1) S.known S.known S.low hi in
            meets M (well (entered M k 0 s2)) pc k (length front_here + suc (length (begin_block M k))) s (ok (begin_halt M k s2)) (front_here ++ (jump (at M k) ∷ S.rest)) h
            (front-run M (begins_of M) (code_of M) (base M k) m (driving M W k S.known) t k pc s s1 (jump (at M k) ∷ S.rest) none (suc (length (begin_block M k))) (ok (begin_halt M k s2)) h q1 s2 q2 none q3
            (stepped M (begins_of M) (code_of M) (jump (at M k) ∷ S.rest) k none s2 (λ g n. (step n, refl)) (land k S.known s2 (free-begin M W k S.known s2 nobody))))
            (omega arith)
            (landed k S.known s2 nobody)

        case-inside : (later : List ℕ) → S.left ≡ t ∷ later → Agrees M (well (entered M k t s2)) (reacting M k pc s).res
        unfolding entered
        case-inside later e =
            let free = free-inside M W k time t S.known S.before et s s1 s2 Q q1 same in
            let quiet = quiet-inside M W k time t S.known S.before et s s1 s2 Q q1 same in
            let o1 = back_block M k time pc S t later e in
            let p1 = behind_front M k time pc S t later e in
            let d1 = first_or p later - t in
            let ad = advance M k time pc S t later e in
            let z : Halt Store = record { mode = k; future = record { pc = p1 + length o1; delay = d1 }; store = R.releases M (opening p t m.calls) s2 } in
            let r = last_blocks M k time pc S t later e ++ S.rest in
            let h : drop pc (code M) ≡ front_here ++ (o1 ++ r) = block_here M k time pc S t later e ∙ ap (front_here ++◌) (append_assoc o1 (last_blocks M k time pc S t later e) S.rest) in
            let hi = block-high M k time pc S t later e in
            let b = within M k S.known in
            meets M (well (entered M k t s2)) pc k (length front_here + length o1) s (ok z) (front_here ++ (o1 ++ r)) h
            (front-run M (begins_of M) (code_of M) (base M k) m (driving M W k S.known) t k pc s s1 (o1 ++ r) none (length o1) (ok z) h q1 s2 q2 none q3
            (back-ends M (begins_of M) (code_of M) (base M k) m (driving M W k S.known) t k d1 p1 s2 r (back-here M k time pc S t later e) free))
            (omega arith)
            (record { same-mode = refl; same_store = refl; sync = ad; delay = rw (advance-soon M k time pc S t later e) refl; quiet = quiet-after M W k t S.known s2 quiet })

    -- no task late: whatever switch is chosen, wherever the instant lies
    case-well : (s1 : Store) → terminations M (closing p t m.calls) s ≡ well s1 → Agrees M (well (after_ends M k t s1)) (reacting M k pc s).res
    case-well s1 q1 = pick (chosen M (closing p t m.switches) ports) refl
      where
        ports : List ℕ
        ports = R.updates M (closing p t m.updates) s1.ports

        s2 : Store
        s2 = with_ports M s1 ports

        q2 : acts M (update M) (closing p t m.updates) s1 ≡ s2
        q2 = acts-updates M (closing p t m.updates) s1

        pick : (target : Option ℕ) → chosen M (closing p t m.switches) ports ≡ target → Agrees M (well (turned M k t target s2)) (reacting M k pc s).res
        pick (some j) c = case-switch s1 q1 s2 q2 j c
        pick none c = where-now S.left refl
          where
            where-now : (ts : List ℕ) → S.left ≡ ts → Agrees M (well (entered M k (cond (eqb t p) 0 t) s2)) (reacting M k pc s).res
            where-now [] e =
                let e1 : t ≡ p = sym et ∙ S.soon ∙ ap (first_or p) e in
                subst (λ (b : Bool). Agrees M (well (entered M k (cond b 0 t) s2)) (reacting M k pc s).res) (sym (eq-eqb t p e1)) (case-wrap s1 q1 s2 q2 c e e1)
            where-now (t1 ∷ later) e =
                let e1 : t ≡ t1 = sym et ∙ S.soon ∙ ap (first_or p) e in
                let (n, f1, f2, f3, f4) = instants-cons S.most m S.since t1 later (sym e ∙ S.listed) in
                subst (λ (b : Bool). Agrees M (well (entered M k (cond b 0 t) s2)) (reacting M k pc s).res) (sym (ne_eqb t p (λ h. omega arith))) (case-inside s1 q1 s2 q2 c later (e ∙ ap (◌∷ later) (sym e1)))

  -- A reaction of the machine that waits at pc is the next instant of the rules.
  pub reaction : (k time pc : ℕ) (S : Sync M k time pc) (readings : List ℕ) (s : Store) → Quiet M k time s
      → Agrees M (instant M k (next_instant (mode_at M k) time) readings s) (reacting M k pc (sensed M readings s)).res
  unfolding instant
  reaction k time pc S readings s Q = go (terminations M (closing (mode_at M k).period t (mode_at M k).calls) (sensed M readings s)) refl
    where
      t : ℕ
      t = next_instant (mode_at M k) time

      go : (x : Outcome Store) → terminations M (closing (mode_at M k).period t (mode_at M k).calls) (sensed M readings s) ≡ x → Agrees M (R.and_then x (λ v. well (after_ends M k t v))) (reacting M k pc (sensed M readings s)).res
      go (late x) q = case-late k time pc t S refl (sensed M readings s) Q x q
      go (well s1) q = case-well k time pc t S refl (sensed M readings s) Q s1 q

  -- The begin block of mode j, where no task is out, is the rules' mode j entered at its time 0.
  pub beginning-run : (j : ℕ) → j < length M.modes → (s : Store) → ((i : ℕ) → Idle s i) → Agrees M (well (entered M j 0 s)) (reacting M j (at M j) s).res
  beginning-run j h s i =
      let b = within M j h in
      let o = begin-size M j in
      meets M (well (entered M j 0 s)) (at M j) j (length (begin_block M j)) s (ok (begin_halt M j s)) (drop (at M j) (code M)) refl (land j h s (free-begin M W j h s i)) (omega arith) (landed j h s i)

  -- Of all faults only 40 comes about, and where the rules say so: never 41, 42 or 43.
  pub only-late : (k time pc : ℕ) (S : Sync M k time pc) (readings : List ℕ) (s : Store) → Quiet M k time s → (fault : Fault) → (reacting M k pc (sensed M readings s)).res ≡ bad fault
      → (task : ℕ) × (fault ≡ E.late task) × (instant M k (next_instant (mode_at M k) time) readings s ≡ late task)
  only-late k time pc S readings s Q fault e = go (instant M k (next_instant (mode_at M k) time) readings s) refl (subst (Agrees M (instant M k (next_instant (mode_at M k) time) readings s)) e (reaction k time pc S readings s Q))
    where
      go : (x : Outcome Place) → instant M k (next_instant (mode_at M k) time) readings s ≡ x → Agrees M x (bad fault)
          → (task : ℕ) × (fault ≡ E.late task) × (instant M k (next_instant (mode_at M k) time) readings s ≡ late task)
      go (well w) q a = absurd a
      go (late task) q a = (task, a, q)
