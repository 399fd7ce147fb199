-- What a block of a mode's code does where it stands: its front (terminations, updates, switches) and its back (releases, future, return).
use Prim.Native.Nat.{ℕ, zero, suc, ◌+◌, ◌≤◌}
use Rattle.std.proofs.Common.{arith, add_assoc, sym, subst}
use Rattle.std.specs.Prelude.{◌≡◌, drop}
use Rattle.std.proofs.Math.Path.{refl}
use Rattle.std.proofs.Math.Option.{Option, none}
use mathlib.Core.List.{List, [], ◌∷◌, ◌++◌, append_assoc}
use Rattle.std.proofs.Math.ListN.{length, length-append}
use Rattle.model.specs.Modules.{Module, Mode, Act, Call, Update}
use Rattle.model.specs.Instructions.{Instr, nop}
use Rattle.timing.specs.Slots.{closing, opening, ends_at, begins_at}
use Rattle.timing.specs.SlotLaws.{Each}
use Rattle.timing.specs.Rules as R
use Rattle.timing.specs.Rules.{Store, well, late, chosen, terminations}
use Rattle.timing.specs.Code.{Piece, ◌⊕◌, fixed, pieces, terminating, updating, switching, releasing, driven_updates, driven_calls, front, await, back}
use Rattle.machine.specs.Instructions as E
use Rattle.machine.specs.Instructions.{Res, ok, bad, Tally, Future, Halt, exec}
use Rattle.timing.specs.Stands.{acts, update, acts-releases}
use Rattle.timing.specs.Runs.{Ends, Does, weaken, follow, marks, terms, terms-late, updates-run, picks, dest, into, obeyed, plain_all, Terminates, Updates}
use Rattle.timing.specs.Tasks.{Free, Releases, releases-run}
use Rattle.timing.specs.Placed.{plain-closing, plain-opening, each_keep}
use Rattle.timing.specs.Blocks.{Driving}

module _ (M : Module) (begins : List ℕ) (code : List Instr) where
  -- a piece, and then another whose end is known wherever it stands
  follows : {p : Piece} {k : ℕ} {s t : Store} → Does M begins code p k s t → (q : Piece) (r : List Instr) (u : Option Future) (c : ℕ) (o : Res (Halt Store))
      → ((pc : ℕ) → drop pc code ≡ q pc ++ r → Ends M begins code (q pc ++ r) k u t (length (q pc) + c) o)
      → (pc : ℕ) → drop pc code ≡ (p ⊕ q) pc ++ r → Ends M begins code ((p ⊕ q) pc ++ r) k u s (length ((p ⊕ q) pc) + c) o
  follows {p} d q r u c o e pc h = rw (length-append, add_assoc) (follow M begins code d q pc r u _ o h (λ h1. e (pc + length (p pc)) h1))

  module _ (n : ℕ) (m : Mode) (D : (Driving M begins code) n m) (t : ℕ) where
    abbrev ending : List (Act Call)
    ending = closing m.period t m.calls

    terms-known : Each (Terminates M begins code) ending
    terms-known = each_keep (Terminates M begins code) (ends_at m.period t) m.calls D.ends

    updates-do : (k : ℕ) (s : Store) → Does M begins code (pieces updating (closing m.period t (driven_updates n m))) k s (acts M (update M) (closing m.period t m.updates) s)
    updates-do k s =
        subst (λ (l : List (Act Update)). Does M begins code (pieces updating (closing m.period t (driven_updates n m))) k s (acts M (update M) l s)) (plain-closing m.period t n m.updates)
        (updates-run M begins code (closing m.period t (driven_updates n m)) k s (each_keep (Updates M begins code) (ends_at m.period t) (driven_updates n m) D.updates))

    -- No task is late: on to the switch that is taken, or behind the front.
    pub front-run : (k pc : ℕ) (s s1 : Store) (r : List Instr) (u : Option Future) (c : ℕ) (o : Res (Halt Store)) → drop pc code ≡ front n m t pc ++ r
        → terminations M ending s ≡ well s1
        → (s2 : Store) → acts M (update M) (closing m.period t m.updates) s1 ≡ s2
        → (target : Option ℕ) → chosen M (closing m.period t m.switches) s2.ports ≡ target
        → Ends M begins code (dest M begins code target r) (into M begins code target k) u s2 c o → Ends M begins code (front n m t pc ++ r) k u s (length (front n m t pc) + c) o
    unfolding front
    front-run k pc s s1 r u c o h q s2 q2 target q3 e =
        let switches = pieces switching (closing m.period t m.switches) in
        let marked = fixed (nop 2 ∷ []) ⊕ switches in
        let updates = pieces updating (closing m.period t (driven_updates n m)) ⊕ marked in
        follows (terms M begins code ending terms-known q) (fixed (nop 1 ∷ []) ⊕ updates) r u c o
        (follows (marks M begins code 1) updates r u c o
        (follows (rw q2 at (updates-do k s1)) marked r u c o
        (follows (marks M begins code 2) switches r u c o (λ pc1 h1. picks M begins code (closing m.period t m.switches) k s2 pc1 r u c o h1 (rw q3 e))))) pc h

    -- A task is late: the front stops there.
    pub front-late : (k pc : ℕ) (s : Store) (x : ℕ) (r : List Instr) (u : Option Future) → terminations M ending s ≡ late x
        → Ends M begins code (front n m t pc ++ r) k u s (length (front n m t pc)) (bad (E.late x))
    unfolding front
    front-late k pc s x r u q = regrouped (terminating ending) _ (terms-late M begins code ending k u s x _ terms-known q)
      where
        regrouped : (a b : List Instr) → Ends M begins code (a ++ (b ++ r)) k u s (length a) (bad (E.late x)) → Ends M begins code ((a ++ b) ++ r) k u s (length (a ++ b)) (bad (E.late x))
        regrouped a b e = rw append_assoc (weaken M begins code (length (a ++ b)) (rw length-append (omega arith)) e)

    await-ends : (distance pc k : ℕ) (s : Store) (r : List Instr)
        → Ends M begins code (await distance pc ++ r) k none s 2 (ok (record { mode = k; future = record { pc = pc + 2; delay = distance }; store = s }))
    unfolding exec
    await-ends distance pc k s r = record { run = go }
      where
        go : (g : ℕ) (tally : Tally) → 2 ≤ g → (obeyed M begins code g (await distance pc ++ r) k none tally s).res ≡ ok (record { mode = k; future = record { pc = pc + 2; delay = distance }; store = s })
        go zero tally le = absurd (omega arith)
        go (suc zero) tally le = absurd (omega arith)
        go (suc (suc g)) tally le = refl

    releases-do : (k : ℕ) (s : Store) → Free (opening m.period t m.calls) s
        → Does M begins code (pieces releasing (opening m.period t (driven_calls n m))) k s (R.releases M (opening m.period t m.calls) s)
    releases-do k s f =
        let w = opening m.period t (driven_calls n m) in
        let e : plain_all w ≡ opening m.period t m.calls = plain-opening m.period t _ m.calls in
        let d : Does M begins code (pieces releasing w) k s (acts M (R.begun M) (plain_all w) s) =
        releases-run M begins code w k s (each_keep (Releases M) (begins_at m.period t) (driven_calls n m) D.releases, subst (λ (l : List (Act Call)). Free l s) (sym e) f) in
        rw acts-releases at (rw e at d)

    -- The back releases, and waits behind itself.
    pub back-ends : (k distance pc : ℕ) (s : Store) (r : List Instr) → drop pc code ≡ back n m t distance pc ++ r → Free (opening m.period t m.calls) s
        → Ends M begins code (back n m t distance pc ++ r) k none s (length (back n m t distance pc))
        (ok (record { mode = k; future = record { pc = pc + length (back n m t distance pc); delay = distance }; store = R.releases M (opening m.period t m.calls) s }))
    unfolding back
    back-ends k distance pc s r h f =
        let w = pieces releasing (opening m.period t (driven_calls n m)) in
        rw (length-append, ← add_assoc)
        (follow M begins code (releases-do k s f) (await distance) pc r none 2 _ h (λ h1. await-ends distance (pc + length (w pc)) k (R.releases M (opening m.period t m.calls) s) r))
