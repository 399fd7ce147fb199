-- Results aside: a row of eight words for each task, and which task is the lowest.
use Prim.Native.Nat.{ℕ, zero, suc, ◌+◌, ◌-◌, ◌*◌, ◌≤◌, ◌<◌}
use Rattle.std.proofs.Common.{arith, add-zero, zero-add, sym, ◌∙◌, ap, ap₂, subst, length-set, get_or-set_same, get_or-set_other}
use Rattle.std.proofs.Math.Decide.{ℕ_discrete, dec_lt}
use Rattle.std.proofs.Math.Path.{◌≡◌, refl}
use Rattle.std.specs.Prelude.{Bool, ◌&&◌, List, [], ◌∷◌, ◌++◌, map, length, get_or, set, eqb}
use Rattle.std.proofs.Math.Bool.{true, false, cond}
use Rattle.std.proofs.Math.Option.{Option, none, some}
use Rattle.model.specs.Rooms.{port_room, task_room}
use Rattle.model.specs.Values.{fits_type}
use Rattle.model.specs.Clock.{fits}
use Rattle.model.specs.Modules.{Module, Task, no_task, place}
use Rattle.timing.specs.SlotLaws.{Each, and-true}
use Rattle.timing.specs.Rules.{Standing, idle, ready, running, done}
use Rattle.timing.specs.Calls.{lowest}
use Rattle.timing.specs.Accepted.{Accepted}
use Rattle.machine.specs.Words.{has, joined, parted, lowest_from, lowest_in}
use Rattle.machine.specs.WordLaws.{join-same, join-other}
use Rattle.machine.specs.Boards.{aside_room}
use Rattle.machine.specs.Store.{part}
use Rattle.bridge.specs.Tabulated.{tab, set-tab}
use Rattle.bridge.specs.Views.{stand_of, Fitting, fitting-idle, tasks, results_of, row_of, stand_at, standings, Neat}

-- ---- words placed

pub place-length : (at : ℕ) (words l : List ℕ) → length (place at words l) ≡ length l
place-length at [] l = refl
place-length at (w ∷ words) l = place-length (at + 1) words (set l at w) ∙ length-set l at w

place-before : (at : ℕ) (words l : List ℕ) (i : ℕ) → i < at → get_or (place at words l) i 0 ≡ get_or l i 0
place-before at [] l i h = refl
place-before at (w ∷ words) l i h = place-before (at + 1) words (set l at w) i (omega arith) ∙ get_or-set_other l at i w 0 (λ e. omega arith)

place-behind : (at : ℕ) (words l : List ℕ) (i : ℕ) → at + length words ≤ i → get_or (place at words l) i 0 ≡ get_or l i 0
place-behind at [] l i h = refl
place-behind at (w ∷ words) l i h = place-behind (at + 1) words (set l at w) i (omega arith) ∙ get_or-set_other l at i w 0 (λ e. omega arith)

-- they stand there
pub part_placed : (at : ℕ) (words l : List ℕ) → at + length words ≤ length l → part (place at words l) at (length words) ≡ words
part_placed at [] l h = refl
part_placed at (w ∷ words) l h =
    let r : length (set l at w) ≡ length l = length-set l at w in
    ap₂ (λ (x : ℕ) (t : List ℕ). x ∷ t)
    (place-before (at + 1) words (set l at w) at (omega arith) ∙ get_or-set_same l at w 0 (omega arith))
    (part_placed (at + 1) words (set l at w) (omega arith))

part_same : (l r : List ℕ) (at n : ℕ) → ((i : ℕ) → at ≤ i → i < at + n → get_or l i 0 ≡ get_or r i 0) → part l at n ≡ part r at n
part_same l r at zero h = refl
part_same l r at (suc n) h = ap₂ (λ (x : ℕ) (t : List ℕ). x ∷ t) (h at (omega arith) (omega arith)) (part_same l r (at + 1) n (λ i a b. h i (omega arith) (omega arith)))

-- rows of two tasks are apart
pub part-other : (j k n : ℕ) (words l : List ℕ) → (j ≡ k → ⊥) → n ≤ port_room → length words ≤ port_room → part (place (k * port_room) words l) (j * port_room) n ≡ part l (j * port_room) n
part-other j k n words l apart small few = part_same (place (k * port_room) words l) l (j * port_room) n (λ i a b. go i a b (dec_lt j k))
  where
    go : (i : ℕ) → j * port_room ≤ i → i < j * port_room + n → Dec (j < k) → get_or (place (k * port_room) words l) i 0 ≡ get_or l i 0
    go i a b (yes h) = place-before (k * port_room) words l i (omega arith)
    go i a b (no h) = let g : k < j = omega (arith, apart) in place-behind (k * port_room) words l i (omega arith)

-- ---- values that fit are as many as wanted

pub fits-many : (wanted types words : List ℕ) → fits wanted types words ≡ true → length words ≡ length wanted
unfolding fits
fits-many [] [] [] h = refl
fits-many [] [] (w ∷ words) h = let z : ◌≡◌ {A = ℕ} 0 1 = cc in absurd (omega arith)
fits-many [] (t ∷ types) words h = let z : ◌≡◌ {A = ℕ} 0 1 = cc in absurd (omega arith)
fits-many (x ∷ wanted) [] words h = let z : ◌≡◌ {A = ℕ} 0 1 = cc in absurd (omega arith)
fits-many (x ∷ wanted) (t ∷ types) [] h = let z : ◌≡◌ {A = ℕ} 0 1 = cc in absurd (omega arith)
fits-many (x ∷ wanted) (t ∷ types) (w ∷ words) h = ap suc (fits-many wanted types words (and-true (eqb t x && fits_type t w) (fits wanted types words) h).1)

module _ (M : Module) (W : Accepted M) where
  few-at : (ts : List Task) → Each (λ t. length t.outputs ≤ port_room) ts → (k : ℕ) → length (get_or ts k no_task).outputs ≤ port_room
  few-at [] h k = omega arith
  few-at (t ∷ ts) h zero = h.0
  few-at (t ∷ ts) h (suc k) = few-at ts h.1 k

  pub few-results : (k : ℕ) → results_of M k ≤ port_room
  few-results k = few-at M.tasks W.few-outputs k

  -- a task's results stored aside
  module _ (aside : List ℕ) (room : length aside ≡ aside_room) (out waiting finished : ℕ) (k : ℕ) (l : k < tasks M) (words : List ℕ) (many : length words ≡ results_of M k) where
    stored : List ℕ
    stored = place (k * port_room) words aside

    row_here : row_of M (place (k * port_room) words aside) k ≡ words
    row_here = let f = few-results k in let t = W.few-tasks in rw (← many) (part_placed (k * port_room) words aside (omega arith))

    row_other : (j : ℕ) → (j ≡ k → ⊥) → row_of M (place (k * port_room) words aside) j ≡ row_of M aside j
    row_other j apart = let f = few-results k in part-other j k (results_of M j) words aside apart (few-results j) (omega arith)

    pub finished-tasks : has out k ≡ true → has waiting k ≡ false → set (standings M aside out waiting finished) k (done words) ≡ standings M (place (k * port_room) words aside) out waiting (joined finished k)
    unfolding standings
    finished-tasks o w =
        let t = W.few-tasks in
        set-tab (stand_at M aside out waiting finished) (stand_at M (place (k * port_room) words aside) out waiting (joined finished k)) (tasks M) k (done words)
        (rw (o, w, join-same finished k (omega arith)) (ap done row_here))
        (λ j h. rw (join-other finished k j h, row_other j h) refl) l

-- ---- the lowest waiting task

lowest-in : (f : ℕ → Standing) (n0 n most word : ℕ) → n ≤ most
    → ((i : ℕ) → i < n → lowest (n0 + i) (f i ∷ []) ≡ cond (has word (n0 + i)) (some (n0 + i)) none)
    → ((i : ℕ) → n ≤ i → has word (n0 + i) ≡ false)
    → lowest n0 (tab f n) ≡ lowest_from most n0 word
unfolding tab lowest_from
lowest-in f n0 zero zero word le now none-later = refl
lowest-in f n0 zero (suc most) word le now none-later =
    let e : has word n0 ≡ false = rw (add-zero n0) at (none-later 0 (omega arith)) in
    rw e (lowest-in f (n0 + 1) zero most word (omega arith) (λ i h. absurd (omega arith)) (λ i h. let q : n0 + 1 + i ≡ n0 + suc i = omega arith in rw q (none-later (suc i) (omega arith))))
lowest-in f n0 (suc n) zero word le now none-later = absurd (omega arith)
lowest-in f n0 (suc n) (suc most) word le now none-later =
    let s : suc n0 ≡ n0 + 1 = omega arith in
    let first : lowest n0 (f 0 ∷ []) ≡ cond (has word n0) (some n0) none = rw (add-zero n0) at (now 0 (omega arith)) in
    let rest : lowest (suc n0) (tab (λ i. f (suc i)) n) ≡ lowest_from most (n0 + 1) word =
    rw s (lowest-in (λ i. f (suc i)) (n0 + 1) n most word (omega arith)
    (λ i h. let q : n0 + 1 + i ≡ n0 + suc i = omega arith in rw q (now (suc i) (omega arith)))
    (λ i h. let q : n0 + 1 + i ≡ n0 + suc i = omega arith in rw q (none-later (suc i) (omega arith)))) in
    go (f 0) (has word n0) first rest
  where
    go : (x : Standing) (y : Bool) → lowest n0 (x ∷ []) ≡ cond y (some n0) none → lowest (suc n0) (tab (λ i. f (suc i)) n) ≡ lowest_from most (n0 + 1) word
        → lowest n0 (x ∷ tab (λ i. f (suc i)) n) ≡ cond y (some n0) (lowest_from most (n0 + 1) word)
    go ready true e r = refl
    go idle false e r = r
    go running false e r = r
    go (done x) false e r = r
    go ready false e r = let z : ◌≡◌ {A = ℕ} 0 1 = cc in absurd (omega arith)
    go idle true e r = let z : ◌≡◌ {A = ℕ} 0 1 = cc in absurd (omega arith)
    go running true e r = let z : ◌≡◌ {A = ℕ} 0 1 = cc in absurd (omega arith)
    go (done x) true e r = let z : ◌≡◌ {A = ℕ} 0 1 = cc in absurd (omega arith)

module _ (M : Module) (few : tasks M ≤ task_room) (aside : List ℕ) (out waiting finished : ℕ) (N : Neat M out waiting finished) where
  pub lowest-same : lowest 0 (standings M aside out waiting finished) ≡ lowest_in waiting
  unfolding standings
  lowest-same = lowest-in (stand_at M aside out waiting finished) 0 (tasks M) 64 waiting (omega arith) now later
    where
      here : (i : ℕ) (x y z : Bool) → Fitting x y z → lowest i (stand_of x y z (row_of M aside i) ∷ []) ≡ cond y (some i) none
      here i false false z n = refl
      here i false true z n = absurd n
      here i true true z n = refl
      here i true false true n = refl
      here i true false false n = refl

      now : (i : ℕ) → i < tasks M → lowest (0 + i) (stand_at M aside out waiting finished i ∷ []) ≡ cond (has waiting (0 + i)) (some (0 + i)) none
      now i h = rw (zero-add i) (here i (has out i) (has waiting i) (has finished i) (N.fits i))

      out-there : (i : ℕ) (x : Bool) → has out i ≡ x → tasks M ≤ i → has waiting i ≡ false
      out-there i true e h = let l = N.within i e in absurd (omega arith)
      out-there i false e h = (fitting-idle (has waiting i) (has finished i) (rw e at (N.fits i))).0

      later : (i : ℕ) → tasks M ≤ i → has waiting (0 + i) ≡ false
      later i h = rw (zero-add i) (out-there i (has out i) refl h)

  -- and it waits
  lowest-has : (most k task word : ℕ) → lowest_from most k word ≡ some task → has word task ≡ true
  unfolding lowest_from
  lowest-has zero k task word e = let z : ◌≡◌ {A = ℕ} 0 1 = cc in absurd (omega arith)
  lowest-has (suc most) k task word e = go (has word k) refl e (λ q. lowest-has most (k + 1) task word q)
    where
      go : (y : Bool) → has word k ≡ y → cond y (some k) (lowest_from most (k + 1) word) ≡ some task → (lowest_from most (k + 1) word ≡ some task → has word task ≡ true) → has word task ≡ true
      go true h q ih = let s : k ≡ task = cc in rw (← s) h
      go false h q ih = ih q

  pub lowest-waits : (task : ℕ) → lowest_in waiting ≡ some task → (has out task ≡ true) × (has waiting task ≡ true) × (has finished task ≡ false) × (task < tasks M)
  lowest-waits task e = go (has out task) refl (has finished task) refl
    where
      w : has waiting task ≡ true
      w = lowest-has 64 0 task waiting e

      go : (x : Bool) → has out task ≡ x → (z : Bool) → has finished task ≡ z → (has out task ≡ true) × (has waiting task ≡ true) × (has finished task ≡ false) × (task < tasks M)
      go true o false f = (o, w, f, N.within task o)
      go true o true f = absurd (rw (o, w, f) at (N.fits task))
      go false o z f = absurd (rw (o, w) at (N.fits task))
