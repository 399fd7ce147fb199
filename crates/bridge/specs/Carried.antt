-- One law: a map between two stores that keeps the operations keeps every run.
use Prim.Native.Nat.{ℕ, zero, suc, ◌+◌}
use Rattle.std.specs.Prelude.{◌≡◌, refl, Bool, true, false, cond, get_or, drop}
use Rattle.std.proofs.Common.{sym, ◌∙◌, ap}
use Rattle.std.proofs.Math.Option.{Option, none, some}
use mathlib.Core.List.{List, [], ◌∷◌, ◌++◌}
use Rattle.model.specs.Instructions.{Instr, nop, future, call, release, iff, jump, return, switch}
use Rattle.machine.specs.Instructions.{Fault, wild, astray, Res, ok, bad, Ops, Future, Tally, counted, step, Halt, Run, fail, go_on, only, leave, exec}
use Rattle.timing.specs.SlotLaws.{Each}

-- of every element of a list
pub all_drop : {A : Type 0} (Q : A → Type 0) (e : ℕ) (l : List A) → Each Q l → Each Q (drop e l)
all_drop Q zero l h = h
all_drop Q (suc e) [] h = tt
all_drop Q (suc e) (a ∷ l) h = all_drop Q e l h.1

module _ {S T : Type 0} (view : S → T) (Good : S → Type 0) where
  abbrev pub Both : Res S → Res T → Type 0
  Both (ok s) (ok t) = (t ≡ view s) × Good s
  Both (ok s) (bad y) = ⊥
  Both (bad x) (ok t) = ⊥
  Both (bad x) (bad y) = x ≡ y

  -- the operations agree, at instructions of which Q holds
  pub record Keeps (O : Ops S) (P : Ops T) (Q : Instr → Type 0) : Type 0 where
    pub tests : (guard other : ℕ) (s : S) → Q (iff guard other) → Good s → O.test guard s ≡ P.test guard (view s)
    pub drives : (driver : ℕ) (s : S) → Q (call driver) → Good s → Both (O.drive driver s) (P.drive driver (view s))
    pub begins : (task : ℕ) (s : S) → Q (release task) → Good s → Both (O.begin task s) (P.begin task (view s))
    pub endings : (driver : ℕ) (s : S) → Q (call driver) → Good s → O.ending driver s ≡ P.ending driver (view s)

  abbrev pub Ends : Res (Halt S) → Res (Halt T) → Type 0
  Ends (ok w) (ok r) = (r ≡ record { mode = w.mode; future = w.future; store = view w.store }) × Good w.store
  Ends (ok w) (bad y) = ⊥
  Ends (bad x) (ok r) = ⊥
  Ends (bad x) (bad y) = x ≡ y

  pub record Same (a : Run S) (b : Run T) : Type 0 where
    pub ends : Ends a.res b.res
    pub tally : a.tally ≡ b.tally

  failed : (x : Fault) → Same (fail x) (fail x)
  failed x = record { ends = refl; tally = refl }

  goes : (a : Res S) (b : Res T) (k : S → Run S) (j : T → Run T) → Both a b → ((s : S) → Good s → Same (k s) (j (view s))) → Same (go_on a k) (go_on b j)
  goes (ok s) (ok r) k j h e = rw h.0 (e s h.1)
  goes (ok s) (bad y) k j h e = absurd h
  goes (bad x) (ok r) k j h e = absurd h
  goes (bad x) (bad y) k j h e = rw h (failed y)

  onlys : (u : Option Future) (a : Run S) (b : Run T) → Same a b → Same (only u a) (only u b)
  onlys none a b h = h
  onlys (some u) a b h = failed astray

  leaves : (u : Option Future) (n : Tally) (k : ℕ) (s : S) → Good s → Same (leave u n k s) (leave u n k (view s))
  leaves none n k s i = failed astray
  leaves (some u) n k s i = record { ends = (refl, i); tally = refl }

  either : (Q : Instr → Type 0) (y : Bool) (l r : List Instr) → Each Q l → Each Q r → Each Q (cond y l r)
  either Q true l r a b = a
  either Q false l r a b = b

  module _ (O : Ops S) (P : Ops T) (Q : Instr → Type 0) (K : Keeps O P Q) (begins other : List ℕ) (B : (j : ℕ) → get_or begins j 0 ≡ get_or other j 0) (code : List Instr) (A : Each Q code) where
    pub runs : (f : ℕ) (l : List Instr) (k : ℕ) (u : Option Future) (n : Tally) (s : S) → Each Q l → Good s → Same (exec O begins code f l k u n s) (exec P other code f l k u n (view s))
    unfolding exec
    runs zero l k u n s q i = failed wild
    runs (suc f) [] k u n s q i = failed wild
    runs (suc f) (nop x ∷ l) k u n s q i = runs f l k u (step n) s q.1 i
    runs (suc f) (future pc d ∷ l) k u n s q i = onlys u _ _ (runs f l k (some (record { pc = pc; delay = d })) (step n) s q.1 i)
    runs (suc f) (call d ∷ l) k u n s q i =
        rw (← K.endings d s q.0 i) (goes (O.drive d s) (P.drive d (view s)) _ _ (K.drives d s q.0 i) (λ s1 j. runs f l k u (counted 0 (O.ending d s) n) s1 q.1 j))
    runs (suc f) (release t ∷ l) k u n s q i = goes (O.begin t s) (P.begin t (view s)) _ _ (K.begins t s q.0 i) (λ s1 j. runs f l k u (counted 1 0 n) s1 q.1 j)
    runs (suc f) (iff g e ∷ l) k u n s q i =
        rw (← K.tests g e s q.0 i) (runs f (cond (O.test g s) l (drop e code)) k u (step n) s (either Q (O.test g s) l (drop e code) q.1 (all_drop Q e code A)) i)
    runs (suc f) (jump e ∷ l) k u n s q i = runs f (drop e code) k u (step n) s (all_drop Q e code A) i
    runs (suc f) (return ∷ l) k u n s q i = leaves u (step n) k s i
    runs (suc f) (switch j ∷ l) k u n s q i = rw (← B j) (runs f (drop (get_or begins j 0) code) j u (step n) s (all_drop Q (get_or begins j 0) code A) i)
