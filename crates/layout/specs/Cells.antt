-- The cells of an array that holds the layout, by the records that they belong to.
use Rattle.std.specs.Prelude.{ℕ, zero, suc, ◌+◌, ◌-◌, ◌*◌, ◌≤◌, ◌<◌, ◌≡◌, refl, true, List, [], ◌∷◌, ◌++◌, length, get_or, take}
use Rattle.std.proofs.Common.{add-zero, zero-add, suc-mul, zero-mul, arith, sym, ap, ap₂, ◌∙◌, length-append, get_or-append-add}
use Rattle.std.proofs.Math.ListN.{get_or-append}
use Rattle.codec.specs.Codecs.{Codec}
use Rattle.codec.proofs.Codecs.{and_left, and_right}
use Rattle.codec.specs.Lists.{many_ok}
use Rattle.model.specs.Modules.{Task, no_task, each, inputs_at, task_ports}
use Rattle.layout.specs.Rows.{zeros, padded, rows}
use Rattle.layout.specs.Plain.{task_cells, task_rows}
use Rattle.layout.specs.Filling.{length-padded}

-- ---- padding shows nothing

pub zeros-cell : (n i : ℕ) → get_or (zeros n) i 0 ≡ 0
unfolding zeros
zeros-cell zero i = refl
zeros-cell (suc n) zero = refl
zeros-cell (suc n) (suc i) = zeros-cell n i

behind-cell : (list : List ℕ) (n i : ℕ) → get_or (list ++ zeros n) i 0 ≡ get_or list i 0
behind-cell [] n i = zeros-cell n i
behind-cell (x ∷ list) n zero = refl
behind-cell (x ∷ list) n (suc i) = behind-cell list n i

pub padded-cell : (room : ℕ) (list : List ℕ) (i : ℕ) → get_or (padded room list) i 0 ≡ get_or list i 0
unfolding padded
padded-cell room list i = behind-cell list (room - length list) i

-- ---- lists of lists, one behind the other

module _ {A B : Type 0} (f : A → List B) (d : A) (e : B) where
  -- the part of element k begins behind those of the elements before
  pub each-inside : (xs : List A) (k j : ℕ) → k < length xs → j < length (f (get_or xs k d)) → get_or (each f xs) (length (each f (take k xs)) + j) e ≡ get_or (f (get_or xs k d)) j e
  each-inside [] k j h g = absurd (omega arith)
  each-inside (x ∷ xs) zero j h g = ap (λ (i : ℕ). get_or (f x ++ each f xs) i e) (zero-add j) ∙ get_or-append (f x) (each f xs) e j g
  each-inside (x ∷ xs) (suc k) j h g =
      let l : length (f x ++ each f (take k xs)) + j ≡ length (f x) + (length (each f (take k xs)) + j) = omega (arith, length-append (f x) (each f (take k xs))) in
      ap (λ (i : ℕ). get_or (f x ++ each f xs) i e) l ∙ get_or-append-add (f x) (each f xs) (length (each f (take k xs)) + j) e
      ∙ each-inside xs k j (omega arith) g

  -- parts of one width
  pub each_width : (width : ℕ) (xs : List A) (k : ℕ) → ((i : ℕ) → i < length xs → length (f (get_or xs i d)) ≡ width) → k ≤ length xs → length (each f (take k xs)) ≡ k * width
  each_width width xs zero w h = sym (zero-mul width)
  each_width width [] (suc k) w h = absurd (omega arith)
  each_width width (x ∷ xs) (suc k) w h =
      length-append (f x) (each f (take k xs)) ∙ ap₂ (λ (a b : ℕ). a + b) (w 0 (omega arith)) (each_width width xs k (λ i g. w (suc i) (omega arith)) (omega arith))
      ∙ omega (arith, suc-mul k width)

  pub each_part : (width : ℕ) (xs : List A) (k j : ℕ) → ((i : ℕ) → i < length xs → length (f (get_or xs i d)) ≡ width) → k < length xs → j < width
      → get_or (each f xs) (k * width + j) e ≡ get_or (f (get_or xs k d)) j e
  each_part width xs k j w h g =
      let l = each_width width xs k w (omega arith) in
      let u = w k h in
      ap (λ (i : ℕ). get_or (each f xs) (i + j) e) (sym l) ∙ each-inside xs k j h (omega arith)

-- ---- rows

module _ {A : Type 0} (width size : ℕ) (cells : A → List ℕ) (d : A) (xs : List A) (wide : (i : ℕ) → i < length xs → length (cells (get_or xs i d)) ≤ width) (k : ℕ) (h : k < length xs) where
  pub rows-cell : (j : ℕ) → j < width → get_or (rows width size cells xs) (k * width + j) 0 ≡ get_or (cells (get_or xs k d)) j 0
  unfolding rows
  rows-cell j g =
      padded-cell size (each (λ x. padded width (cells x)) xs) (k * width + j)
      ∙ each_part (λ x. padded width (cells x)) d 0 width xs k j (λ i p. length-padded width (cells (get_or xs i d)) (wide i p)) h g
      ∙ padded-cell width (cells (get_or xs k d)) j

  pub rows-first : 0 < width → get_or (rows width size cells xs) (k * width) 0 ≡ get_or (cells (get_or xs k d)) 0 0
  rows-first g = ap (λ (i : ℕ). get_or (rows width size cells xs) i 0) (sym (add-zero (k * width))) ∙ rows-cell 0 g

-- ---- tasks

-- the row of task k, among tasks whose first port is `at`
pub task-row : (at : ℕ) (tasks : List Task) (k : ℕ) → k < length tasks → get_or (task_rows at tasks) k [] ≡ task_cells (inputs_at at tasks k) (get_or tasks k no_task)
unfolding task_rows
task-row at [] k h = absurd (omega arith)
task-row at (t ∷ tasks) zero h = refl
task-row at (t ∷ tasks) (suc k) h = task-row (at + task_ports t) tasks k (omega arith)

pub length-task-rows : (at : ℕ) (tasks : List Task) → length (task_rows at tasks) ≡ length tasks
unfolding task_rows
length-task-rows at [] = refl
length-task-rows at (t ∷ tasks) = ap suc (length-task-rows (at + task_ports t) tasks)

-- ---- every part of a list that can stand in a file can

pub many-ok-at : {A : Type 0} (c : Codec A) (xs : List A) (d : A) → many_ok c xs ≡ true → (k : ℕ) → k < length xs → c.ok (get_or xs k d) ≡ true
many-ok-at c [] d h k g = absurd (omega arith)
many-ok-at c (x ∷ xs) d h zero g = and_left _ _ h
many-ok-at c (x ∷ xs) d h (suc k) g = many-ok-at c xs d (and_right (c.ok x) _ h) k (omega arith)
