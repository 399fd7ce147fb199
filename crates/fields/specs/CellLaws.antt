-- How single cells make a row.
use Rattle.std.specs.Prelude.{ℕ, zero, suc, ◌+◌, ◌-◌, ◌≤◌, ◌<◌, ◌≡◌, refl, min, set, length, take, drop, replicate}
use Rattle.std.proofs.Common.{append_assoc, length-take-le, length-drop}
use Rattle.std.proofs.Math.Seq.{take-nil, set_out}
use Rattle.std.proofs.Math.ListN.{length-set}
use Rattle.std.proofs.lemmas.List.{drop-drop, length-replicate, take-replicate}
use Rattle.std.proofs.lemmas.List.Edits.{sets, sets-eq}
use borrow.Rule.Slice.PartMut.{put_mid}
use Rattle.std.proofs.Math.Numerals.{towards_suc}
use native.Mathlib.Omega.{arith}
use Rattle.std.proofs.Math.Path.{sym, ap}
use Rattle.std.proofs.Common.{◌∙◌}
use mathlib.Core.List.{List, [], ◌∷◌}
use Rattle.layout.specs.Filling.{stored, fill, stored-none, stored-then}

-- ---- cells one after the other

pub cells-two : (l : List ℕ) (place a b : ℕ) → set (set l place a) (place + 1) b ≡ stored l place (a ∷ b ∷ [])
unfolding stored
cells-two l place a b = simp towards_suc

pub cells-three : (l : List ℕ) (place a b c : ℕ) → set (set (set l place a) (place + 1) b) (place + 2) c ≡ stored l place (a ∷ b ∷ c ∷ [])
unfolding stored
cells-three l place a b c = simp towards_suc

pub cells-four : (l : List ℕ) (place a b c d : ℕ) → set (set (set (set l place a) (place + 1) b) (place + 2) c) (place + 3) d ≡ stored l place (a ∷ b ∷ c ∷ d ∷ [])
unfolding stored
cells-four l place a b c d = simp towards_suc

-- ---- a row filled cell by cell

module _ (store : ℕ → ℕ → List ℕ → List ℕ) (place : ℕ) (cell : (k x : ℕ) (l : List ℕ) → store k x l ≡ set l (place + k) x) where
  pub fill-cells : (k : ℕ) (xs l : List ℕ) → fill store k xs l ≡ stored l (place + k) xs
  unfolding fill
  fill-cells k [] l = sym (stored-none l (place + k))
  fill-cells k (x ∷ xs) l =
      let e : place + (k + 1) ≡ place + k + 1 = omega arith in
      fill-cells (k + 1) xs (store k x l) ∙ ap (λ (i : ℕ). stored (store k x l) i xs) e ∙ ap (λ (m : List ℕ). stored m (place + k + 1) xs) (cell k x l)
      ∙ sym (stored-then l (place + k) x xs)

-- ---- cells that are copied together, as many as there is room for

-- what is put behind the end goes nowhere
clipped : (cells l : List ℕ) (i k : ℕ) → k ≡ min (length l - i) (length cells) → sets l i cells ≡ sets l i (take k cells)
clipped [] l i k e = rw take-nil refl
clipped (x ∷ cells) l i zero e = rw (set_out l i x (omega arith)) (clipped cells l (suc i) 0 (omega arith))
clipped (x ∷ cells) l i (suc k) e = clipped cells (set l i x) (suc i) k (omega (arith, length-set l i x))

pub stored-part : (l cells part : List ℕ) (i k : ℕ) → i ≤ length l → k ≡ min (length l - i) (length cells) → part ≡ take k cells → put_mid i k l part ≡ stored l i cells
unfolding stored
stored-part l cells part i k h e p =
    let w : length (take k cells) ≡ k = length-take-le k cells (omega arith) in
    rw p
    (sym (clipped cells l i k e ∙ sets-eq (take k cells) l i (omega arith) ∙ rw (w, ← (drop-drop k i l)) (append_assoc (take i l) (take k cells) (drop k (drop i l)))))

pub stored-nowhere : (l cells : List ℕ) (i : ℕ) → length l ≤ i → l ≡ stored l i cells
unfolding stored
stored-nowhere l cells i h = sym (clipped cells l i 0 (omega arith))

-- cells that hold the same
pub stored-same : (l part : List ℕ) (i end n x : ℕ) → i < length l → end ≡ min (length l) (i + n) → part ≡ replicate (length (take (end - i) (drop i l))) x
    → put_mid i (end - i) l part ≡ stored l i (replicate n x)
stored-same l part i end n x h e p =
    let k : end - i ≡ min (length l - i) (length (replicate n x)) = omega (arith, length-replicate n x) in
    let m : length (take (end - i) (drop i l)) ≡ end - i = length-take-le (end - i) (drop i l) (omega (arith, length-drop i l)) in
    stored-part l (replicate n x) part i (end - i) (omega arith) k (p ∙ rw m (sym (take-replicate (end - i) n x (omega arith))))
