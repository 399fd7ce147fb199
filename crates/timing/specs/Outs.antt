-- Which tasks can be out, by the rules alone: those with a slot in force. So a task is never released that is out, and none is out where a mode is entered.
use Rattle.std.specs.Prelude.{ℕ, ◌<◌, ◌≡◌, refl, Bool, true, false, List, [], ◌∷◌, length}
use Rattle.std.proofs.Common.{arith, ◌∙◌, subst}
use Rattle.std.proofs.Math.Option.{some}
use Rattle.model.specs.Modules.{Module, Mode, Act, Call}
use Rattle.timing.specs.Slots.{keep, closing, opening, ends_at, begins_at, live_at, amid_at}
use Rattle.timing.specs.SlotLaws.{Each, each-zip, Fits, Midst, stays_at, begun-live, midst-live, midst-begins, midst-before}
use Rattle.timing.specs.Rules as R
use Rattle.timing.specs.Rules.{Store, well, mode_at, next_instant, passes, chosen, terminations}
use Rattle.timing.specs.InstantLaws.{at_next}
use Rattle.timing.specs.Accepted.{Absent, Leads, Accepted}
use Rattle.timing.specs.Stands.{acts, acts-releases}
use Rattle.timing.specs.Tasks.{Idle, Free, begins-keep, left_out, all-idle, distinct-keep, absent-if, absent-split, absent_none, idle-others}

bar : (t time p : ℕ) (c : Act Call) → Fits p c → Midst p time t c → begins_at p t c ≡ true → stays_at p time t c ≡ false
bar t time p c f m h = go (stays_at p time t c) refl
  where
    go : (y : Bool) → stays_at p time t c ≡ y → y ≡ false
    go false e = refl
    go true e = let k = midst-begins p t c f (m e) in cc

every : (l : List (Act Call)) → Each (λ a. Unit {0}) l
every [] = tt
every (a ∷ l) = (tt, every l)

module _ (M : Module) where
  -- At time t of mode k every task is idle but those with a slot in force.
  abbrev pub Quiet : ℕ → ℕ → Store → Type 0
  Quiet k t s = (j : ℕ) → Absent j (keep (live_at (mode_at M k).period t) (mode_at M k).calls) → Idle s j

  -- The switch that is taken is one of the mode's, at an end of its slot.
  picked : (p t n : ℕ) (calls : List (Act Call)) (switches : List (Act ℕ)) (ports : List ℕ) (j : ℕ) → Each (Leads p n calls) switches → chosen M (closing p t switches) ports ≡ some j
      → (j < n) × Each (λ c. amid_at p t c ≡ false) calls
  picked p t n calls [] ports j l e = let z : ◌≡◌ {A = ℕ} 0 1 = cc in absurd (omega arith)
  picked p t n calls (a ∷ rest) ports j l e = go (ends_at p t a) refl (passes M a.guard ports) refl (λ h. picked p t n calls rest ports j l.1 h)
    where
      go : (y : Bool) → ends_at p t a ≡ y → (z : Bool) → passes M a.guard ports ≡ z → (chosen M (closing p t rest) ports ≡ some j → (j < n) × Each (λ c. amid_at p t c ≡ false) calls) → (j < n) × Each (λ c. amid_at p t c ≡ false) calls
      go false b z c ih = ih (rw b at e)
      go true b true c ih = let h : some a.what ≡ some j = rw c at (rw b at e) in let h1 : a.what ≡ j = cc in (rw (← h1) l.0.target, l.0.clear t b)
      go true b false c ih = ih (rw c at (rw b at e))

module _ (M : Module) (W : Accepted M) where
  -- Releases at t leave those tasks idle that have no slot in force at t.
  pub quiet-after : (j t : ℕ) → j < length M.modes → (s : Store) → Quiet M j t s → Quiet M j t (R.releases M (opening (mode_at M j).period t (mode_at M j).calls) s)
  quiet-after j t h s q i ab =
      let p = (mode_at M j).period in
      let fit = (W.modes j h).lasting.calls-fit in
      let w : Each (λ a. begins_at p t a ≡ true → live_at p t a ≡ true) (mode_at M j).calls =
      each-zip (Fits p) (Fits p) (λ a. begins_at p t a ≡ true → live_at p t a ≡ true) (λ a f _ b. begun-live p t a f b) (mode_at M j).calls fit fit in
      let e : acts M (R.begun M) (opening p t (mode_at M j).calls) s ≡ R.releases M (opening p t (mode_at M j).calls) s = acts-releases M (opening p t (mode_at M j).calls) s in
      subst (λ (v : Store). Idle v i) e (begins-keep M (opening p t (mode_at M j).calls) s i (absent-if (begins_at p t) (live_at p t) i (mode_at M j).calls w ab) ∙ q i ab)

  -- Where no task is out, the releases at a mode's time 0 are free.
  pub free-begin : (j : ℕ) → j < length M.modes → (s : Store) → ((i : ℕ) → Idle s i) → Free (opening (mode_at M j).period 0 (mode_at M j).calls) s
  free-begin j h s q = (distinct-keep (begins_at (mode_at M j).period 0) (mode_at M j).calls (W.modes j h).distinct, all-idle (opening (mode_at M j).period 0 (mode_at M j).calls) s q)

  -- ---- at t, the next instant of mode k: s1 the terminations done, s2 the updates too

  module _ (k time t : ℕ) (known : k < length M.modes) (before : time < (mode_at M k).period) (et : next_instant (mode_at M k) time ≡ t) (s s1 s2 : Store) (Q : Quiet M k time s)
      (q1 : terminations M (closing (mode_at M k).period t (mode_at M k).calls) s ≡ well s1) (same : s2.tasks ≡ s1.tasks) where
    abbrev m : Mode
    m = mode_at M k

    abbrev p : ℕ
    p = (mode_at M k).period

    -- Only tasks are out whose slot goes on.
    on : (j : ℕ) → Absent j (keep (stays_at p time t) m.calls) → Idle s2 j
    on j h =
        let i : Idle s1 j = left_out M (closing p t m.calls) s s1 q1 (λ i. Absent i (keep (stays_at p time t) m.calls)) (λ i a b. Q i (absent-split (live_at p time) (ends_at p t) i m.calls a b)) j h in
        rw same i

    mid : Each (Midst p time t) m.calls
    mid = at_next m time t before et

    no_one : Each (λ c. amid_at p t c ≡ true → ⊥) m.calls → (j : ℕ) → Idle s2 j
    no_one w j =
        on j (absent_none (stays_at p time t) j m.calls
        (each-zip (Midst p time t) (λ c. amid_at p t c ≡ true → ⊥) (λ c. stays_at p time t c ≡ true → ⊥) (λ c a b h. b (a h)) m.calls mid w))

    -- At a switch, and at the period's end, no task is out.
    pub nobody-switch : (j : ℕ) → chosen M (closing p t m.switches) s2.ports ≡ some j → (j < length M.modes) × ((i : ℕ) → Idle s2 i)
    nobody-switch j q3 =
        let (lt, cl) = picked M p t (length M.modes) m.calls m.switches s2.ports j (W.modes k known).leads q3 in
        (lt, no_one (each-zip (λ c. amid_at p t c ≡ false) (λ c. amid_at p t c ≡ false) (λ c. amid_at p t c ≡ true → ⊥) (λ c a _ b. let z : ◌≡◌ {A = ℕ} 0 1 = cc in omega arith) m.calls cl cl))

    pub nobody-wrap : t ≡ p → (i : ℕ) → Idle s2 i
    nobody-wrap e =
        let fit = (W.modes k known).lasting.calls-fit in
        no_one (each-zip (Fits p) (Fits p) (λ c. amid_at p t c ≡ true → ⊥) (λ c f _ b. let h = midst-before p t c f b in omega arith) m.calls fit fit)

    -- Inside the period the releases are free, and only tasks are out that have a slot in force.
    pub free-inside : Free (opening p t m.calls) s2
    free-inside =
        let fit = (W.modes k known).lasting.calls-fit in
        let bars : Each (λ c. begins_at p t c ≡ true → stays_at p time t c ≡ false) m.calls =
        each-zip (Fits p) (Midst p time t) (λ c. begins_at p t c ≡ true → stays_at p time t c ≡ false) (bar t time p) m.calls fit mid in (
          distinct-keep (begins_at p t) m.calls (W.modes k known).distinct,
          idle-others (stays_at p time t) (begins_at p t) s2 m.calls (λ j. Unit {0}) (every m.calls) (W.modes k known).distinct bars (λ j _ h. on j h),
        )

    pub quiet-inside : Quiet M k t s2
    quiet-inside =
        let fit = (W.modes k known).lasting.calls-fit in
        let lives : Each (λ c. stays_at p time t c ≡ true → live_at p t c ≡ true) m.calls =
        each-zip (Fits p) (Midst p time t) (λ c. stays_at p time t c ≡ true → live_at p t c ≡ true) (λ c f a h. midst-live p t c (a h)) m.calls fit mid in
        λ j h. on j (absent-if (stays_at p time t) (live_at p t) j m.calls lives h)
