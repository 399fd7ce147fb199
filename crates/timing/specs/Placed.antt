-- Where the modes' code stands, and their drivers.
use Prim.Native.Nat.{ℕ, zero, suc, ◌+◌, ◌≤◌, ◌<◌}
use Rattle.std.proofs.Common.{arith, add-zero, zero-add, sym, ◌∙◌, ap, length-append, drop-drop, get_or-drop}
use Rattle.std.specs.Prelude.{◌≡◌, refl, Bool, true, false, cond, get_or, drop}
use mathlib.Core.List.{List, [], ◌∷◌, ◌++◌, append_assoc, map}
use Rattle.std.proofs.Math.ListN.{length, get_or-append}
use Rattle.std.proofs.Math.Seq.{drop-append_seam}
use Rattle.model.specs.Modules.{Module, Mode, Task, Act, each}
use Rattle.model.specs.Instructions.{Instr, Driver, terminates, no_driver}
use Rattle.timing.specs.Slots.{keep, closing, opening, ends_at, begins_at, spans}
use Rattle.timing.specs.SlotLaws.{Each}
pub use Rattle.timing.specs.SlotLaws.{each_keep}
use Rattle.timing.specs.Rules.{no_mode}
use Rattle.timing.specs.Code.{mode_code, code_from, begins_from, mode_driver_count, mode_drivers, drivers_of, terminates_from, Driven, driven_from}
use Rattle.timing.specs.Runs.{plain, plain_all}
use Rattle.timing.specs.Stands.{driver_at}

-- ---- code

pub past : (code : List Instr) (pc : ℕ) (l r : List Instr) → drop pc code ≡ l ++ r → drop (pc + length l) code ≡ r
past code pc l r h = sym (drop-drop (length l) pc code) ∙ (rw h (drop-append_seam l r))

-- the first driver of each mode
abbrev pub bases_from : ℕ → List Mode → List ℕ
bases_from n [] = []
bases_from n (m ∷ ms) = n ∷ bases_from (n + mode_driver_count m) ms

abbrev pub mode_in : List Mode → ℕ → Mode
mode_in ms k = get_or ms k no_mode

-- mode k's code where it stands, and its length
abbrev pub code_in : ℕ → List Mode → ℕ → ℕ → List Instr
code_in n ms pc k = mode_code (get_or (bases_from n ms) k 0) (mode_in ms k) (get_or (begins_from n ms pc) k 0)

-- the length of a mode's code
abbrev pub size : ℕ → List Mode → ℕ → ℕ → ℕ
size n ms pc k = length (code_in n ms pc k)

module _ (code : List Instr) where
  pub placed : (n : ℕ) (ms : List Mode) (pc k : ℕ) (r : List Instr) → k < length ms → drop pc code ≡ code_from n ms pc ++ r
      → (r1 : List Instr) × (drop (get_or (begins_from n ms pc) k 0) code ≡ code_in n ms pc k ++ r1)
  unfolding code_from begins_from
  placed n [] pc k r lt h = absurd (omega arith)
  placed n (m ∷ ms) pc zero r lt h = (code_from (n + mode_driver_count m) ms (pc + length (mode_code n m pc)) ++ r, h ∙ append_assoc (mode_code n m pc) _ r)
  placed n (m ∷ ms) pc (suc k) r lt h =
      placed (n + mode_driver_count m) ms (pc + length (mode_code n m pc)) k r (omega arith) (past code pc (mode_code n m pc) _ (h ∙ append_assoc (mode_code n m pc) _ r))

pub above : (n : ℕ) (ms : List Mode) (pc k : ℕ) → k < length ms → pc ≤ get_or (begins_from n ms pc) k 0
unfolding begins_from
above n [] pc k lt = absurd (omega arith)
above n (m ∷ ms) pc zero lt = omega arith
above n (m ∷ ms) pc (suc k) lt = let h = above (n + mode_driver_count m) ms (pc + length (mode_code n m pc)) k (omega arith) in omega arith

pub apart : (n : ℕ) (ms : List Mode) (pc i j : ℕ) → i < j → j < length ms → get_or (begins_from n ms pc) i 0 + size n ms pc i ≤ get_or (begins_from n ms pc) j 0
unfolding begins_from
apart n [] pc i j h lt = absurd (omega arith)
apart n (m ∷ ms) pc i zero h lt = absurd (omega arith)
apart n (m ∷ ms) pc zero (suc j) h lt = above (n + mode_driver_count m) ms (pc + length (mode_code n m pc)) j (omega arith)
apart n (m ∷ ms) pc (suc i) (suc j) h lt = apart (n + mode_driver_count m) ms (pc + length (mode_code n m pc)) i j (omega arith) (omega arith)

pub below : (n : ℕ) (ms : List Mode) (pc k : ℕ) → k < length ms → get_or (begins_from n ms pc) k 0 + size n ms pc k ≤ pc + length (code_from n ms pc)
unfolding begins_from code_from
below n [] pc k lt = absurd (omega arith)
below n (m ∷ ms) pc zero lt = simp length-append (omega arith)
below n (m ∷ ms) pc (suc k) lt = let h = below (n + mode_driver_count m) ms (pc + length (mode_code n m pc)) k (omega arith) in simp length-append (omega arith)

-- ---- drivers

-- the drivers from n on are those of these activities
driver-next : (drivers : List Driver) (n : ℕ) (d : Driver) (ds : List Driver) → drop n drivers ≡ d ∷ ds → (get_or drivers n no_driver ≡ d) × (drop (n + 1) drivers ≡ ds)
driver-next drivers n d ds h = (
  ap (λ (i : ℕ). get_or drivers i no_driver) (omega arith) ∙ sym (get_or-drop n drivers 0 no_driver) ∙ ap (λ (l : List Driver). get_or l 0 no_driver) h,
  sym (drop-drop 1 n drivers) ∙ ap (λ (l : List Driver). drop 1 l) h,
)

module _ {A : Type 0} (drivers : List Driver) (driver_of : A → Driver) where
  pub numbered : (acts : List (Act A)) (n : ℕ) (r : List Driver) → drop n drivers ≡ map (λ a. driver_of a.what) acts ++ r
      → Each (λ a. get_or drivers a.what.driver no_driver ≡ driver_of a.what.does) (driven_from n acts) × (drop (n + length acts) drivers ≡ r)
  numbered [] n r h = (tt, rw (add-zero n) h)
  numbered (a ∷ acts) n r h =
      let (d, on) = driver-next drivers n (driver_of a.what) (map (λ b. driver_of b.what) acts ++ r) h in
      let (e, out) = numbered acts (n + 1) r on in
      let i : n + suc (length acts) ≡ n + 1 + length acts = omega arith in
      ((d, e), rw i out)

pub plain-driven : {A : Type 0} (n : ℕ) (acts : List (Act A)) → plain_all (driven_from n acts) ≡ acts
plain-driven n [] = refl
plain-driven n (a ∷ acts) = ap (λ (l : List (Act _)). a ∷ l) (plain-driven (n + 1) acts)

-- choosing by time does not look at the number
module _ {A : Type 0} (f : Act (Driven A) → Bool) (g : Act A → Bool) (same : (a : Act (Driven A)) → f a ≡ g (plain a)) where
  pub plain-keep : (acts : List (Act (Driven A))) → plain_all (keep f acts) ≡ keep g (plain_all acts)
  plain-keep [] = refl
  plain-keep (a ∷ acts) = go (f a) (g (plain a)) (same a) (plain-keep acts)
    where
      go : (y z : Bool) → y ≡ z → plain_all (keep f acts) ≡ keep g (plain_all acts) → plain_all (cond y (a ∷ keep f acts) (keep f acts)) ≡ cond z (plain a ∷ keep g (plain_all acts)) (keep g (plain_all acts))
      go true true e r = ap (λ (l : List (Act A)). plain a ∷ l) r
      go true false e r = let z : ◌≡◌ {A = ℕ} 0 1 = cc in absurd (omega arith)
      go false true e r = let z : ◌≡◌ {A = ℕ} 0 1 = cc in absurd (omega arith)
      go false false e r = r

pub plain-closing : {A : Type 0} (p t n : ℕ) (acts : List (Act A)) → plain_all (closing p t (driven_from n acts)) ≡ closing p t acts
unfolding spans
plain-closing p t n acts = plain-keep (ends_at p t) (ends_at p t) (λ a. refl) (driven_from n acts) ∙ ap (λ (l : List (Act _)). keep (ends_at p t) l) (plain-driven n acts)

pub plain-opening : {A : Type 0} (p t n : ℕ) (acts : List (Act A)) → plain_all (opening p t (driven_from n acts)) ≡ opening p t acts
unfolding spans
plain-opening p t n acts = plain-keep (begins_at p t) (begins_at p t) (λ a. refl) (driven_from n acts) ∙ ap (λ (l : List (Act _)). keep (begins_at p t) l) (plain-driven n acts)

-- The drivers of mode k stand from its first driver on.
pub drivers-at : (drivers : List Driver) (n : ℕ) (ms : List Mode) (k : ℕ) (r : List Driver) → k < length ms → drop n drivers ≡ each mode_drivers ms ++ r
    → (r1 : List Driver) × (drop (get_or (bases_from n ms) k 0) drivers ≡ mode_drivers (mode_in ms k) ++ r1)
drivers-at drivers n [] k r lt h = absurd (omega arith)
drivers-at drivers n (m ∷ ms) zero r lt h = (each mode_drivers ms ++ r, h ∙ append_assoc (mode_drivers m) (each mode_drivers ms) r)
drivers-at drivers n (m ∷ ms) (suc k) r lt h =
    drivers-at drivers (n + mode_driver_count m) ms k r (omega arith)
    (ap (λ (i : ℕ). drop i drivers) (ap (λ (i : ℕ). n + i) (sym (counts m))) ∙ sym (drop-drop (length (mode_drivers m)) n drivers)
    ∙ ap (λ (l : List Driver). drop (length (mode_drivers m)) l) (h ∙ append_assoc (mode_drivers m) (each mode_drivers ms) r) ∙ drop-append_seam (mode_drivers m) (each mode_drivers ms ++ r))
  where
    mapped : {A : Type 0} (f : Act A → Driver) (l : List (Act A)) → length (map f l) ≡ length l
    mapped f [] = refl
    mapped f (a ∷ l) = ap suc (mapped f l)

    counts : (m : Mode) → length (mode_drivers m) ≡ mode_driver_count m
    counts m = rw length-append (rw (mapped _ m.updates, mapped _ m.calls) refl)

-- Terminate for each task: the driver of a task's number.
pub terminates-at : (M : Module) (task : ℕ) → task < length M.tasks → driver_at M task ≡ terminates task
unfolding drivers_of
terminates-at M task h = get_or-append (terminates_from 0 M.tasks) (each mode_drivers M.modes) no_driver task (rw (long 0 M.tasks) h) ∙ ends 0 M.tasks task h ∙ ap terminates (zero-add task)
  where
    long : (k : ℕ) (tasks : List Task) → length (terminates_from k tasks) ≡ length tasks
    long k [] = refl
    long k (t ∷ tasks) = ap suc (long (k + 1) tasks)

    ends : (k : ℕ) (tasks : List Task) (j : ℕ) → j < length tasks → get_or (terminates_from k tasks) j no_driver ≡ terminates (k + j)
    ends k [] j h = absurd (omega arith)
    ends k (t ∷ tasks) zero h = ap terminates (omega arith)
    ends k (t ∷ tasks) (suc j) h = ends (k + 1) tasks j (omega arith) ∙ ap terminates (omega arith)
