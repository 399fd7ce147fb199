-- Which tasks are out: what terminations, updates and releases leave.
use Rattle.std.specs.Prelude.{ℕ, ◌≡◌, refl, ◌≢◌, Bool, true, false, cond, List, [], ◌∷◌, ◌++◌, get_or, set}
use Rattle.std.proofs.Common.{arith, sym, ◌∙◌, subst, get_or-set_other}
use Rattle.std.proofs.Math.Decide.{ℕ_discrete}
use Rattle.model.specs.Modules.{Module, Act, Call, Update, copy_to}
use Rattle.model.specs.Instructions.{Instr, release, releases}
use Rattle.timing.specs.Slots.{keep}
use Rattle.timing.specs.SlotLaws.{Each}
use Rattle.timing.specs.Accepted.{Absent, Distinct}
use Rattle.timing.specs.Standings.{terminated, split}
use Rattle.timing.specs.Rules as R
use Rattle.timing.specs.Rules.{Standing, idle, ready, Store, well, passes, terminations, inputs_of}
use Rattle.timing.specs.Code.{fixed, pieces, Driven, releasing}
use Rattle.machine.specs.Instructions.{counted, exec}
use Rattle.timing.specs.Stands.{driver_at, stand_ops, acts, update, with_ports}
use Rattle.timing.specs.Runs.{Does, stepped, weaken, all, plain_all}

-- a task is not out
abbrev pub Idle : Store → ℕ → Type 0
Idle s t = get_or s.tasks t idle ≡ idle

-- no task invoked is out
abbrev pub AllIdle : List (Act Call) → Store → Type 0
AllIdle [] s = Unit {0}
AllIdle (a ∷ rest) s = Idle s a.what.task × AllIdle rest s

-- tasks invoked once, none of them out
abbrev pub Free : List (Act Call) → Store → Type 0
Free rest s = Distinct rest × AllIdle rest s

-- a change of another task leaves them
pub set_free : (rest : List (Act Call)) (s : Store) (ports : List ℕ) (t : ℕ) (v : Standing) → Absent t rest → AllIdle rest s → AllIdle rest (record { ports = ports; tasks = set s.tasks t v })
set_free [] s ports t v h i = tt
set_free (a ∷ rest) s ports t v h i = (get_or-set_other s.tasks t a.what.task v idle (λ e. h.0 (sym e)) ∙ i.0, set_free rest s ports t v h.1 i.1)

-- ---- releases

-- an invocation's driver is its release
abbrev pub Releases : Module → Act (Driven Call) → Type 0
Releases M a = driver_at M a.what.driver ≡ releases a.what.does.task a.what.does.sources

module _ (M : Module) (begins : List ℕ) (code : List Instr) where
  release-one : (a : Act (Driven Call)) (k : ℕ) (s : Store) → Releases M a → Idle s a.what.does.task → Does M begins code (fixed (releasing a.what)) k s (R.begun M a.what.does s)
  unfolding exec
  release-one a k s d i =
      let c = a.what.does in
      record {
        does = λ pc r u n o h e. weaken M begins code _ (omega arith)
            (stepped M begins code (releasing a.what ++ r) k u s (λ g m. (counted 0 ((stand_ops M).ending a.what.driver s) m, rw d refl))
            (stepped M begins code (release c.task ∷ r) k u (with_ports M s (copy_to (inputs_of M c.task) c.sources s.ports)) (λ g m. (counted 1 0 m, rw i refl)) e));
      }

  abbrev pub Ready : List (Act (Driven Call)) → Store → Type 0
  Ready rest s = Each (Releases M) rest × Free (plain_all rest) s

  pub releases-run : (rest : List (Act (Driven Call))) (k : ℕ) (s : Store) → Ready rest s → Does M begins code (pieces releasing rest) k s (acts M (R.begun M) (plain_all rest) s)
  releases-run =
      all M begins code releasing (R.begun M) Ready
      (λ a rest k s q. release-one a k s q.0.0 q.1.1.0)
      (λ a rest s q. (q.0.1, (q.1.0.1, set_free (plain_all rest) s _ a.what.does.task ready q.1.0.0 q.1.1.1)))
      (λ a rest s q. (q.0.1, (q.1.0.1, q.1.1.1)))

-- ---- terminations

module _ (M : Module) where
  -- Where, of the tasks of Q, only those of the list were out, none of Q is.
  pub left_out : (rest : List (Act Call)) (s v : Store) → terminations M rest s ≡ well v → (Q : ℕ → Type 0) → ((j : ℕ) → Q j → Absent j rest → Idle s j) → (j : ℕ) → Q j → Idle v j
  left_out [] s v q Q h j k = let e : s ≡ v = cc in rw (← e) (h j k tt)
  left_out (a ∷ rest) s v q Q h j k =
      let (w, e, r) = split M a rest s v q in
      left_out rest w v r Q (λ i qi ab. go i qi ab (ℕ_discrete i a.what.task) w (terminated M a.what.task s w e i)) j k
    where
      go : (i : ℕ) → Q i → Absent i rest → Dec (i ≡ a.what.task) → (w : Store) → Idle w a.what.task × ((i ≢ a.what.task) → get_or w.tasks i idle ≡ get_or s.tasks i idle) → Idle w i
      go i qi ab (yes n) w b = rw n b.0
      go i qi ab (no n) w b = b.1 n ∙ h i qi (n, ab)

  -- ---- updates and releases

  pub updates-keep : (rest : List (Act Update)) (s : Store) → (acts M (update M) rest s).tasks ≡ s.tasks
  updates-keep [] s = refl
  updates-keep (a ∷ rest) s = updates-keep rest (cond (passes M a.guard s.ports) (update M a.what s) s) ∙ go (passes M a.guard s.ports)
    where
      go : (y : Bool) → (cond y (update M a.what s) s).tasks ≡ s.tasks
      go true = refl
      go false = refl

  pub begins-keep : (rest : List (Act Call)) (s : Store) (j : ℕ) → Absent j rest → get_or (acts M (R.begun M) rest s).tasks j idle ≡ get_or s.tasks j idle
  begins-keep [] s j h = refl
  begins-keep (a ∷ rest) s j h = begins-keep rest (cond (passes M a.guard s.ports) (R.begun M a.what s) s) j h.1 ∙ go (passes M a.guard s.ports)
    where
      go : (y : Bool) → get_or (cond y (R.begun M a.what s) s).tasks j idle ≡ get_or s.tasks j idle
      go true = get_or-set_other s.tasks a.what.task j ready idle h.0
      go false = refl

pub all-idle : (rest : List (Act Call)) (s : Store) → ((j : ℕ) → Idle s j) → AllIdle rest s
all-idle [] s h = tt
all-idle (a ∷ rest) s h = (h a.what.task, all-idle rest s h)

-- ---- invocations that a test keeps

module _ (f : Act Call → Bool) where
  pub absent-keep : (j : ℕ) (rest : List (Act Call)) → Absent j rest → Absent j (keep f rest)
  absent-keep j [] h = tt
  absent-keep j (a ∷ rest) h = go (f a) (absent-keep j rest h.1)
    where
      go : (y : Bool) → Absent j (keep f rest) → Absent j (cond y (a ∷ keep f rest) (keep f rest))
      go true r = (h.0, r)
      go false r = r

  pub distinct-keep : (rest : List (Act Call)) → Distinct rest → Distinct (keep f rest)
  distinct-keep [] h = tt
  distinct-keep (a ∷ rest) h = go (f a) (distinct-keep rest h.1)
    where
      go : (y : Bool) → Distinct (keep f rest) → Distinct (cond y (a ∷ keep f rest) (keep f rest))
      go true d = (absent-keep a.what.task rest h.0, d)
      go false d = d

-- of the invocations that f keeps, and of those that g keeps
module _ (f g : Act Call → Bool) where
  pub absent-if : (j : ℕ) (rest : List (Act Call)) → Each (λ a. f a ≡ true → g a ≡ true) rest → Absent j (keep g rest) → Absent j (keep f rest)
  absent-if j [] w h = tt
  absent-if j (a ∷ rest) w h = go (f a) refl (g a) refl h (absent-if j rest w.1)
    where
      go : (y : Bool) → f a ≡ y → (z : Bool) → g a ≡ z → Absent j (cond z (a ∷ keep g rest) (keep g rest)) → (Absent j (keep g rest) → Absent j (keep f rest)) → Absent j (cond y (a ∷ keep f rest) (keep f rest))
      go true e true k i r = (i.0, r i.1)
      go true e false k i r = let z : ◌≡◌ {A = ℕ} 0 1 = cc (w.0 e) in absurd (omega arith)
      go false e true k i r = r i.1
      go false e false k i r = r i

  -- f, if not g
  abbrev butnot : Act Call → Bool
  butnot a = cond (g a) false (f a)

  pub absent-split : (j : ℕ) (rest : List (Act Call)) → Absent j (keep butnot rest) → Absent j (keep g rest) → Absent j (keep f rest)
  absent-split j [] h k = tt
  absent-split j (a ∷ rest) h k = go (f a) (g a) h k (absent-split j rest)
    where
      go : (y z : Bool) → Absent j (cond (cond z false y) (a ∷ keep butnot rest) (keep butnot rest)) → Absent j (cond z (a ∷ keep g rest) (keep g rest)) → (Absent j (keep butnot rest) → Absent j (keep g rest) → Absent j (keep f rest))
          → Absent j (cond y (a ∷ keep f rest) (keep f rest))
      go true true h k r = (k.0, r h k.1)
      go true false h k r = (h.0, r h.1 k)
      go false true h k r = r h k.1
      go false false h k r = r h k

  -- Where none is out but tasks of invocations that f keeps, those that g keeps and f does not are idle.
  pub idle-others : (s : Store) (rest : List (Act Call)) (Q : ℕ → Type 0) → Each (λ a. Q a.what.task) rest → Distinct rest → Each (λ a. g a ≡ true → f a ≡ false) rest
      → ((j : ℕ) → Q j → Absent j (keep f rest) → Idle s j) → AllIdle (keep g rest) s
  idle-others s [] Q q d w h = tt
  idle-others s (a ∷ rest) Q q d w h =
      go (g a) refl (idle-others s rest (λ j. Q j × (j ≢ a.what.task)) (apart rest q.1 d.0) d.1 w.1 (λ j k i. h j k.0 (past j (f a) k.1 i)))
    where
      apart : (l : List (Act Call)) → Each (λ b. Q b.what.task) l → Absent a.what.task l → Each (λ b. Q b.what.task × (b.what.task ≢ a.what.task)) l
      apart [] x y = tt
      apart (b ∷ l) x y = ((x.0, λ e. y.0 (sym e)), apart l x.1 y.1)

      past : (j : ℕ) (y : Bool) → (j ≢ a.what.task) → Absent j (keep f rest) → Absent j (cond y (a ∷ keep f rest) (keep f rest))
      past j true n i = (n, i)
      past j false n i = i

      go : (z : Bool) → g a ≡ z → AllIdle (keep g rest) s → AllIdle (cond z (a ∷ keep g rest) (keep g rest)) s
      go true e r =
          let n : f a ≡ false = w.0 e in
          (h a.what.task q.0 (subst (λ y. Absent a.what.task (cond y (a ∷ keep f rest) (keep f rest))) (sym n) (absent-keep f a.what.task rest d.0)), r)
      go false e r = r

pub absent_none : (f : Act Call → Bool) (j : ℕ) (rest : List (Act Call)) → Each (λ a. f a ≡ true → ⊥) rest → Absent j (keep f rest)
absent_none f j [] w = tt
absent_none f j (a ∷ rest) w = go (f a) refl (absent_none f j rest w.1)
  where
    go : (y : Bool) → f a ≡ y → Absent j (keep f rest) → Absent j (cond y (a ∷ keep f rest) (keep f rest))
    go true e r = absurd (w.0 e)
    go false e r = r
