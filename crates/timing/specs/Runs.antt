-- What a piece of code does where it stands.
use Prim.Native.Nat.{ℕ, zero, suc, ◌+◌, ◌≤◌}
use Rattle.std.proofs.Common.{arith, add_assoc, sym, ◌∙◌, ap, length-append, drop-drop}
use Rattle.std.proofs.Math.Path.{◌≡◌, refl}
use Rattle.std.specs.Prelude.{Bool, cond, length, get_or}
use Rattle.std.proofs.Math.Bool.{true, false}
use Rattle.std.proofs.Math.Option.{Option, none, some}
use mathlib.Core.List.{List, [], ◌∷◌, ◌++◌, append_assoc}
use Rattle.std.proofs.Math.ListN.{drop}
use Rattle.std.proofs.Math.Seq.{drop-append_seam}
use Rattle.model.specs.Modules.{Module, Act, Call, Update}
use Rattle.model.specs.Instructions.{Instr, nop, call, iff, switch, updates, terminates}
use Rattle.timing.specs.SlotLaws.{Each}
use Rattle.timing.specs.Rules as R
use Rattle.timing.specs.Rules.{Store, Outcome, well, late, passes, chosen, terminations}
use Rattle.timing.specs.Code.{Piece, ◌⊕◌, fixed, guarded, pieces, terminating, Driven, updating, switching}
use Rattle.machine.specs.Instructions as E
use Rattle.machine.specs.Instructions.{Res, ok, bad, Tally, step, counted, Future, Halt, Run, exec}
use Rattle.timing.specs.Stands.{res_of, standing, driven, driver_at, stand_ops, acts, update}

-- an activity without its driver's number
abbrev pub plain : {A : Type 0} → Act (Driven A) → Act A
plain a = record { frequency = a.frequency; guard = a.guard; what = a.what.does }

-- activities without their drivers' numbers
abbrev pub plain_all : {A : Type 0} → List (Act (Driven A)) → List (Act A)
plain_all [] = []
plain_all (a ∷ rest) = plain a ∷ plain_all rest

module _ (M : Module) (begins : List ℕ) (code : List Instr) where
  abbrev pub obeyed : ℕ → List Instr → ℕ → Option Future → Tally → Store → Run Store
  obeyed = exec (stand_ops M) begins code

  -- With c instructions allowed, or more, the run from l in mode k comes to o, whatever was counted so far.
  pub record Ends (l : List Instr) (k : ℕ) (u : Option Future) (s : Store) (c : ℕ) (o : Res (Halt Store)) : Type 0 where
    pub run : (g : ℕ) (n : Tally) → c ≤ g → (obeyed g l k u n s).res ≡ o

  pub weaken : {l : List Instr} {k : ℕ} {u : Option Future} {s : Store} {c : ℕ} {o : Res (Halt Store)} (d : ℕ) → c ≤ d → Ends l k u s c o → Ends l k u s d o
  weaken d h e = record { run = λ g n le. e.run g n (omega arith) }

  -- One instruction: if the run goes on from l in k u s as from l1 in k1 u1 s1.
  pub stepped : {l1 : List Instr} {k1 : ℕ} {u1 : Option Future} {s1 : Store} {c : ℕ} {o : Res (Halt Store)} (l : List Instr) (k : ℕ) (u : Option Future) (s : Store)
      → ((g : ℕ) (n : Tally) → (n1 : Tally) × (obeyed (suc g) l k u n s ≡ obeyed g l1 k1 u1 n1 s1))
      → Ends l1 k1 u1 s1 c o → Ends l k u s (suc c) o
  stepped {l1} {k1} {u1} {s1} {c} {o} l k u s q e = record { run = go }
    where
      go : (g : ℕ) (n : Tally) → suc c ≤ g → (obeyed g l k u n s).res ≡ o
      go zero n le = absurd (omega arith)
      go (suc g) n le = let (n1, h) = q g n in rw h (e.run g n1 (omega arith))

  -- The piece p, in mode k, takes s to t and goes on behind itself.
  pub record Does (p : Piece) (k : ℕ) (s t : Store) : Type 0 where
    pub does : (pc : ℕ) (r : List Instr) (u : Option Future) (c : ℕ) (o : Res (Halt Store)) → drop pc code ≡ p pc ++ r → Ends r k u t c o → Ends (p pc ++ r) k u s (length (p pc) + c) o

  -- where a piece ends
  pub behind : (pc : ℕ) (l r : List Instr) → drop pc code ≡ l ++ r → drop (pc + length l) code ≡ r
  behind pc l r h = sym (drop-drop (length l) pc code) ∙ (rw h (drop-append_seam l r))

  -- a piece, and then another whose end is known
  pub follow : {p : Piece} {k : ℕ} {s t : Store} → Does p k s t → (q : Piece) (pc : ℕ) (r : List Instr) (u : Option Future) (c : ℕ) (o : Res (Halt Store)) → drop pc code ≡ (p ⊕ q) pc ++ r
      → (drop (pc + length (p pc)) code ≡ q (pc + length (p pc)) ++ r → Ends (q (pc + length (p pc)) ++ r) k u t c o)
      → Ends ((p ⊕ q) pc ++ r) k u s (length (p pc) + c) o
  follow {p} a q pc r u c o h e =
      let h1 : drop pc code ≡ p pc ++ (q (pc + length (p pc)) ++ r) = h ∙ append_assoc (p pc) (q (pc + length (p pc))) r in
      rw append_assoc (a.does pc (q (pc + length (p pc)) ++ r) u c o h1 (e (behind pc (p pc) (q (pc + length (p pc)) ++ r) h1)))

  pub both : {p q : Piece} {k : ℕ} {s t v : Store} → Does p k s t → Does q k t v → Does (p ⊕ q) k s v
  both {p} {q} a b = record { does = λ pc r u c o h e. rw (length-append, add_assoc) (follow a q pc r u _ o h (λ h1. b.does (pc + length (p pc)) r u c o h1 e)) }

  pub nothing : {k : ℕ} {s : Store} → Does (fixed []) k s s
  nothing = record { does = λ pc r u c o h e. weaken (0 + c) (omega arith) e }

  pub marks : (i : ℕ) {k : ℕ} {s : Store} → Does (fixed (nop i ∷ [])) k s s
  unfolding exec
  marks i {k} {s} = record { does = λ pc r u c o h e. weaken (1 + c) (omega arith) (stepped (nop i ∷ r) k u s (λ g n. (step n, refl)) e) }

  pub calls : (d : ℕ) {k : ℕ} {s t : Store} → driven M (driver_at M d) s ≡ ok t → Does (fixed (call d ∷ [])) k s t
  unfolding exec
  calls d {k} {s} {t} q =
      record { does = λ pc r u c o h e. weaken (1 + c) (omega arith) (stepped (call d ∷ r) k u s (λ g n. (counted 0 ((stand_ops M).ending d s) n, rw q refl)) e) }

  -- ---- terminations: the driver of a task's number terminates it

  abbrev pub Terminates : Act Call → Type 0
  Terminates a = driver_at M a.what.task ≡ terminates a.what.task

  abbrev terminated : Act Call → Store → Outcome Store
  terminated a s = R.ended M a.what.task s (standing M s a.what.task)

  pub terms : (rest : List (Act Call)) {k : ℕ} {s t : Store} → Each Terminates rest → terminations M rest s ≡ well t → Does (fixed (terminating rest)) k s t
  terms [] {k} {s} {t} d q = let e : s ≡ t = cc in rw (← e) nothing
  terms (a ∷ rest) {k} {s} {t} d q = go (terminated a s) refl (λ v h. terms rest d.1 h)
    where
      go : (x : Outcome Store) → terminated a s ≡ x → ((v : Store) → terminations M rest v ≡ well t → Does (fixed (terminating rest)) k v t) → Does (fixed (terminating (a ∷ rest))) k s t
      go (well v) e ih = both (calls a.what.task (rw d.0 (ap res_of e))) (ih v (rw e at q))
      go (late x) e ih = let z : ◌≡◌ {A = ℕ} 0 1 = cc (rw e at q) in absurd (omega arith)

  pub terms-late : (rest : List (Act Call)) (k : ℕ) (u : Option Future) (s : Store) (x : ℕ) (r : List Instr) → Each Terminates rest → terminations M rest s ≡ late x
      → Ends (terminating rest ++ r) k u s (length (terminating rest)) (bad (E.late x))
  unfolding exec
  terms-late [] k u s x r d q = let z : ◌≡◌ {A = ℕ} 0 1 = cc in absurd (omega arith)
  terms-late (a ∷ rest) k u s x r d q = go (terminated a s) refl (λ v h. terms-late rest k u v x r d.1 h)
    where
      go : (y : Outcome Store) → terminated a s ≡ y → ((v : Store) → terminations M rest v ≡ late x → Ends (terminating rest ++ r) k u v (length (terminating rest)) (bad (E.late x)))
          → Ends (terminating (a ∷ rest) ++ r) k u s (length (terminating (a ∷ rest))) (bad (E.late x))
      go (well v) e ih =
          stepped (terminating (a ∷ rest) ++ r) k u s (λ g n. (counted 0 ((stand_ops M).ending a.what.task s) n, rw d.0 (rw e refl))) (ih v (rw e at q))
      go (late y) e ih = record { run = stop }
        where
          stop : (g : ℕ) (n : Tally) → suc (length (terminating rest)) ≤ g → (obeyed g (terminating (a ∷ rest) ++ r) k u n s).res ≡ bad (E.late x)
          stop zero n le = absurd (omega arith)
          stop (suc g) n le = let f : y ≡ x = cc (rw e at q) in rw d.0 (rw e (ap (λ (i : ℕ). bad (E.late i)) f))

  -- ---- guarded pieces

  guard-go : (g : ℕ) (b : List Instr) (k : ℕ) (s t : Store) (pc : ℕ) (r : List Instr) (u : Option Future) (c : ℕ) (o : Res (Halt Store)) → Does (fixed b) k s t
      → drop pc code ≡ iff g (pc + suc (length b)) ∷ (b ++ r)
      → (y : Bool) → passes M (some g) s.ports ≡ y → Ends r k u (cond y t s) c o → Ends (iff g (pc + suc (length b)) ∷ (b ++ r)) k u s (suc (length b + c)) o
  unfolding exec
  guard-go g b k s t pc r u c o d h true q e =
      stepped (iff g (pc + suc (length b)) ∷ (b ++ r)) k u s (λ i n. (step n, rw q refl)) (d.does (pc + 1) r u c o (behind pc (iff g (pc + suc (length b)) ∷ []) (b ++ r) h) e)
  guard-go g b k s t pc r u c o d h false q e =
      weaken (suc (length b + c)) (omega arith) (stepped (iff g (pc + suc (length b)) ∷ (b ++ r)) k u s (λ i n. (step n, rw q (rw (behind pc (iff g (pc + suc (length b)) ∷ b) r h) refl))) e)

  pub guards : (g : Option ℕ) (b : List Instr) {k : ℕ} {s t : Store} → Does (fixed b) k s t → Does (guarded g b) k s (cond (passes M g s.ports) t s)
  guards none b d = d
  guards (some g) b {k} {s} {t} d = record { does = λ pc r u c o h e. weaken _ (omega arith) (guard-go g b k s t pc r u c o d h (passes M (some g) s.ports) refl e) }

  -- Pieces of one kind, one after the other; Q is what the rest asks of the store.
  module _ {A : Type 0} (body : Driven A → List Instr) (f : A → Store → Store) (Q : List (Act (Driven A)) → Store → Type 0)
      (now : (a : Act (Driven A)) (rest : List (Act (Driven A))) (k : ℕ) (s : Store) → Q (a ∷ rest) s → Does (fixed (body a.what)) k s (f a.what.does s))
      (ran : (a : Act (Driven A)) (rest : List (Act (Driven A))) (s : Store) → Q (a ∷ rest) s → Q rest (f a.what.does s))
      (skipped : (a : Act (Driven A)) (rest : List (Act (Driven A))) (s : Store) → Q (a ∷ rest) s → Q rest s) where
    on : (a : Act (Driven A)) (rest : List (Act (Driven A))) (s : Store) → Q (a ∷ rest) s → (y : Bool) → Q rest (cond y (f a.what.does s) s)
    on a rest s q true = ran a rest s q
    on a rest s q false = skipped a rest s q

    pub all : (rest : List (Act (Driven A))) (k : ℕ) (s : Store) → Q rest s → Does (pieces body rest) k s (acts M f (plain_all rest) s)
    all [] k s q = nothing
    all (a ∷ rest) k s q =
        both (guards a.guard (body a.what) (now a rest k s q))
        (all rest k (cond (passes M a.guard s.ports) (f a.what.does s) s) (on a rest s q (passes M a.guard s.ports)))

  -- ---- updates

  abbrev pub Updates : Act (Driven Update) → Type 0
  Updates a = driver_at M a.what.driver ≡ updates a.what.does.source a.what.does.target

  pub updates-run : (rest : List (Act (Driven Update))) (k : ℕ) (s : Store) → Each Updates rest → Does (pieces updating rest) k s (acts M (update M) (plain_all rest) s)
  updates-run rest k s d =
      all updating (update M) (λ l v. Each Updates l) (λ a l j v q. calls a.what.driver (rw q.0 refl)) (λ a l v q. q.1) (λ a l v q. q.1) rest k s d

  -- ---- switches

  abbrev pub dest : Option ℕ → List Instr → List Instr
  dest none r = r
  dest (some j) r = drop (get_or begins j 0) code

  abbrev pub into : Option ℕ → ℕ → ℕ
  into none k = k
  into (some j) k = j

  switch-go : (a : Act ℕ) (rest : List (Act ℕ)) (k : ℕ) (s : Store) (pc : ℕ) (r : List Instr) (u : Option Future) (c : ℕ) (o : Res (Halt Store))
      → (g : Option ℕ) → drop pc code ≡ (guarded g (switching a.what) ⊕ pieces switching rest) pc ++ r
      → (y : Bool) → passes M g s.ports ≡ y
      → ((pc1 : ℕ) → drop pc1 code ≡ pieces switching rest pc1 ++ r → Ends (dest (chosen M rest s.ports) r) (into (chosen M rest s.ports) k) u s c o → Ends (pieces switching rest pc1 ++ r) k u s (length (pieces switching rest pc1) + c) o)
      → Ends (dest (cond y (some a.what) (chosen M rest s.ports)) r) (into (cond y (some a.what) (chosen M rest s.ports)) k) u s c o
      → Ends ((guarded g (switching a.what) ⊕ pieces switching rest) pc ++ r) k u s (length ((guarded g (switching a.what) ⊕ pieces switching rest) pc) + c) o
  unfolding exec
  switch-go a rest k s pc r u c o none h true q ih e = weaken _ (omega arith) (stepped (switch a.what ∷ (pieces switching rest (pc + 1) ++ r)) k u s (λ i n. (step n, refl)) e)
  switch-go a rest k s pc r u c o none h false q ih e = let z : ◌≡◌ {A = ℕ} 0 1 = cc in absurd (omega arith)
  switch-go a rest k s pc r u c o (some g) h true q ih e =
      weaken _ (omega arith)
      (stepped (iff g (pc + 2) ∷ switch a.what ∷ (pieces switching rest (pc + 2) ++ r)) k u s (λ i n. (step n, rw q refl))
      (stepped (switch a.what ∷ (pieces switching rest (pc + 2) ++ r)) k u s (λ i n. (step n, refl)) e))
  switch-go a rest k s pc r u c o (some g) h false q ih e =
      let h2 : drop (pc + 2) code ≡ pieces switching rest (pc + 2) ++ r = behind pc (iff g (pc + 2) ∷ switch a.what ∷ []) (pieces switching rest (pc + 2) ++ r) h in
      weaken _ (omega arith)
      (stepped (iff g (pc + 2) ∷ switch a.what ∷ (pieces switching rest (pc + 2) ++ r)) k u s (λ i n. (step n, rw q (rw h2 refl))) (ih (pc + 2) h2 e))

  pub picks : (rest : List (Act ℕ)) (k : ℕ) (s : Store) (pc : ℕ) (r : List Instr) (u : Option Future) (c : ℕ) (o : Res (Halt Store)) → drop pc code ≡ pieces switching rest pc ++ r
      → Ends (dest (chosen M rest s.ports) r) (into (chosen M rest s.ports) k) u s c o → Ends (pieces switching rest pc ++ r) k u s (length (pieces switching rest pc) + c) o
  picks [] k s pc r u c o h e = weaken _ (omega arith) e
  picks (a ∷ rest) k s pc r u c o h e = switch-go a rest k s pc r u c o a.guard h (passes M a.guard s.ports) refl (λ pc1 h1 e1. picks rest k s pc1 r u c o h1 e1) e
