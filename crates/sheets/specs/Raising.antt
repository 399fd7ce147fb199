-- A row put in among others: what stood behind it stands one row further.
use Prim.Native.Nat.{ℕ, zero, suc, ◌+◌, ◌-◌, ◌*◌, ◌≤◌, ◌<◌}
use Rattle.std.proofs.Common.{add-zero, zero-mul, suc-mul, one-mul, add-mul, arith, ◌∙◌, take_at, take_all}
use Rattle.std.specs.Prelude.{◌≡◌, set, drop}
use Rattle.std.proofs.Math.Path.{refl, sym, ap, ap₂}
use mathlib.Core.List.{List, [], ◌∷◌, ◌++◌, append-nil, append_assoc}
use Rattle.std.proofs.Math.ListN.{length, get_or, take, length-append}
use Rattle.std.proofs.lemmas.List.Edits.{sets-eq}
use Rattle.std.proofs.Math.Seq.{drop-append-add, take-suc, length-take-le, append_snoc}
use Rattle.std.proofs.lemmas.List.{set_at, get_or_at}
use Rattle.timing.specs.SlotLaws.{Each}
use Rattle.model.specs.Modules.{each}
use Rattle.layout.specs.Rows.{zeros, padded, rows}
use Rattle.layout.specs.Filling.{stored, length-zeros, zeros-both, length-padded, each_both}
use Rattle.sheets.specs.Sheets.{raised, inserted}

-- ---- cells moved up

-- zeros on one side of a zero are zeros on the other
zeros-turn : (n : ℕ) (b : List ℕ) → zeros n ++ (0 ∷ b) ≡ 0 ∷ (zeros n ++ b)
unfolding zeros
zeros-turn zero b = refl
zeros-turn (suc n) b = ap (λ (l : List ℕ). 0 ∷ l) (zeros-turn n b)

-- one cell moved over zeros
lifted : (a : List ℕ) (x v : ℕ) (b : List ℕ) (at : ℕ) → at ≡ length a
    → set (set (a ++ (x ∷ (zeros (suc v) ++ b))) (at + suc v) (get_or (a ++ (x ∷ (zeros (suc v) ++ b))) at 0)) at 0 ≡ a ++ (zeros (suc v) ++ (x ∷ b))
unfolding zeros
lifted a x v b at e =
    let g : get_or (a ++ (x ∷ (zeros (suc v) ++ b))) at 0 ≡ x = get_or_at a x (zeros (suc v) ++ b) 0 at (sym e) in
    let l : length (a ++ (x ∷ zeros v)) ≡ at + suc v = simp (length-append, length-zeros) (omega arith) in
    let p : a ++ (x ∷ (zeros (suc v) ++ b)) ≡ (a ++ (x ∷ zeros v)) ++ (0 ∷ b) =
    ap (λ (m : List ℕ). a ++ (x ∷ m)) (sym (zeros-turn v b)) ∙ sym (append_assoc a (x ∷ zeros v) (0 ∷ b)) in
    let q : set (a ++ (x ∷ (zeros (suc v) ++ b))) (at + suc v) x ≡ a ++ (x ∷ (zeros v ++ (x ∷ b))) =
    ap (λ (m : List ℕ). set m (at + suc v) x) p ∙ set_at (a ++ (x ∷ zeros v)) 0 b x (at + suc v) l ∙ append_assoc a (x ∷ zeros v) (x ∷ b) in
    ap (λ (c : ℕ). set (set (a ++ (x ∷ (zeros (suc v) ++ b))) (at + suc v) c) at 0) g ∙ ap (λ (m : List ℕ). set m at 0) q
    ∙ set_at a x (zeros v ++ (x ∷ b)) 0 at (sym e)

module _ (front : List ℕ) (place v : ℕ) (e : place ≡ length front) where
  pub raised-over : (k : ℕ) (tail b : List ℕ) → length tail ≡ k → raised place (suc v) k (front ++ (tail ++ (zeros (suc v) ++ b))) ≡ front ++ (zeros (suc v) ++ (tail ++ b))
  unfolding raised
  raised-over zero [] b h = refl
  raised-over zero (x ∷ tail) b h = absurd (omega arith)
  raised-over (suc k) tail b h =
      let init = take k tail in
      let x = get_or tail k 0 in
      let z = zeros (suc v) in
      let n : length init ≡ k = length-take-le k tail (omega arith) in
      let t : tail ≡ init ++ (x ∷ []) = sym (take_all (suc k) tail (omega arith)) ∙ take-suc tail k 0 (omega arith) in
      let p : front ++ (tail ++ (z ++ b)) ≡ (front ++ init) ++ (x ∷ (z ++ b)) =
      ap (λ (m : List ℕ). front ++ (m ++ (z ++ b))) t ∙ ap (λ (m : List ℕ). front ++ m) (append_snoc init x (z ++ b)) ∙ sym (append_assoc front init (x ∷ (z ++ b))) in
      let l : place + k ≡ length (front ++ init) = simp length-append (omega arith) in
      let q = lifted (front ++ init) x v b (place + k) l in
      let r : (front ++ init) ++ (z ++ (x ∷ b)) ≡ front ++ (init ++ (z ++ (x ∷ b))) = append_assoc front init (z ++ (x ∷ b)) in
      let u : init ++ (x ∷ b) ≡ tail ++ b = sym (ap (λ (m : List ℕ). m ++ b) t ∙ append_snoc init x b) in
      ap (λ (m : List ℕ). raised place (suc v) k (set (set m (place + k + suc v) (get_or m (place + k) 0)) (place + k) 0)) p
      ∙ ap (raised place (suc v) k) (q ∙ r) ∙ raised-over k init (x ∷ b) n ∙ ap (λ (m : List ℕ). front ++ (z ++ m)) u

-- as a loop goes: the last cell first
pub raised-none : (place width : ℕ) (l : List ℕ) → raised place width 0 l ≡ l
unfolding raised
raised-none place width l = refl

pub raised-step : (place width k : ℕ) (l : List ℕ) → 0 < k
    → raised place width k l ≡ raised place width (k - 1) (set (set l (place + (k - 1) + width) (get_or l (place + (k - 1)) 0)) (place + (k - 1)) 0)
unfolding raised
raised-step place width zero l h = absurd (omega arith)
raised-step place width (suc k) l h = let e : suc k - 1 ≡ k = omega arith in rw e refl

-- ---- a row among rows

stored-middle : (front cells rest : List ℕ) (width at : ℕ) → at ≡ length front → length cells ≤ width
    → stored (front ++ (zeros width ++ rest)) at cells ≡ front ++ (padded width cells ++ rest)
unfolding stored padded
stored-middle front cells rest width at e h =
    let w : width ≡ length cells + (width - length cells) = omega arith in
    let z : zeros width ≡ zeros (length cells) ++ zeros (width - length cells) = ap zeros w ∙ sym (zeros-both (length cells) (width - length cells)) in
    let whole = front ++ (zeros width ++ rest) in
    let l : at + length cells ≤ length whole = simp (length-append, length-zeros) (omega arith) in
    let d : drop (at + length cells) whole ≡ zeros (width - length cells) ++ rest =
    ap (λ (k : ℕ). drop (k + length cells) whole) e ∙ drop-append-add front (zeros width ++ rest) (length cells)
    ∙ ap (λ (m : List ℕ). drop (length cells) (m ++ rest)) z
    ∙ ap (λ (m : List ℕ). drop (length cells) m) (append_assoc (zeros (length cells)) (zeros (width - length cells)) rest)
    ∙ ap (λ (k : ℕ). drop k (zeros (length cells) ++ (zeros (width - length cells) ++ rest))) (sym (add-zero (length cells)) ∙ ap (λ (k : ℕ). k + 0) (sym (length-zeros (length cells))))
    ∙ drop-append-add (zeros (length cells)) (zeros (width - length cells) ++ rest) 0 in
    sets-eq cells whole at l ∙ ap₂ (λ (a b : List ℕ). a ++ cells ++ b) (take_at front (zeros width ++ rest) at (sym e)) d
    ∙ append_assoc front cells (zeros (width - length cells) ++ rest)
    ∙ ap (λ (m : List ℕ). front ++ m) (sym (append_assoc cells (zeros (width - length cells)) rest))

-- the cells of records, each in its row
abbrev pub flat : {A : Type 0} → ℕ → (A → List ℕ) → List A → List ℕ
flat width cells xs = each (λ x. padded width (cells x)) xs

module _ {A : Type 0} (v size : ℕ) (cells : A → List ℕ) where
  pub length-flat : (xs : List A) → Each (λ x. length (cells x) ≤ suc v) xs → length (flat (suc v) cells xs) ≡ length xs * suc v
  length-flat [] h = sym (zero-mul (suc v))
  length-flat (x ∷ xs) h =
      length-append (padded (suc v) (cells x)) (flat (suc v) cells xs)
      ∙ ap₂ (λ (a b : ℕ). a + b) (length-padded (suc v) (cells x) h.0) (length-flat xs h.1) ∙ simp suc-mul (omega arith)

  module _ (xs ys : List A) (x : A) (short : Each (λ y. length (cells y) ≤ suc v) xs) (shorter : Each (λ y. length (cells y) ≤ suc v) ys) (fits : length (cells x) ≤ suc v)
      (room : (length xs + length ys + 1) * suc v ≤ size) where
    pub rows-inserted : (row behind : ℕ) → row ≡ length xs → behind ≡ length ys
        → inserted (suc v) row behind (cells x) (rows (suc v) size cells (xs ++ ys)) ≡ rows (suc v) size cells (xs ++ (x ∷ ys))
    unfolding inserted rows padded
    rows-inserted row behind e g =
        let w = suc v in
        let F = flat w cells xs in
        let B = flat w cells ys in
        let f : length F ≡ length xs * w = length-flat xs short in
        let b : length B ≡ length ys * w = length-flat ys shorter in
        let old : flat w cells (xs ++ ys) ≡ F ++ B = each_both (λ y. padded w (cells y)) xs ys in
        let new : flat w cells (xs ++ (x ∷ ys)) ≡ F ++ (padded w (cells x) ++ B) = each_both (λ y. padded w (cells y)) xs (x ∷ ys) in
        let o : length (F ++ B) ≡ length xs * w + length ys * w = length-append F B ∙ ap₂ (λ (i j : ℕ). i + j) f b in
        let r : (length xs + length ys + 1) * w ≡ length xs * w + length ys * w + w = simp (add-mul, one-mul) refl in
        let left = size - length (F ++ B) in
        let k = left - w in
        let z : zeros left ≡ zeros w ++ zeros k = ap zeros (omega arith) ∙ sym (zeros-both w k) in
        let p : padded size (F ++ B) ≡ F ++ (B ++ (zeros w ++ zeros k)) =
        ap (λ (m : List ℕ). (F ++ B) ++ m) z ∙ append_assoc F B (zeros w ++ zeros k) in
        let n : length (F ++ (padded w (cells x) ++ B)) ≡ length F + (w + length B) =
        length-append F (padded w (cells x) ++ B)
        ∙ ap (λ (i : ℕ). length F + i) (length-append (padded w (cells x)) B ∙ ap (λ (i : ℕ). i + length B) (length-padded w (cells x) fits)) in
        let q : padded size (F ++ (padded w (cells x) ++ B)) ≡ F ++ (padded w (cells x) ++ (B ++ zeros k)) =
        ap (λ (m : ℕ). (F ++ (padded w (cells x) ++ B)) ++ zeros m) (omega arith)
        ∙ append_assoc F (padded w (cells x) ++ B) (zeros k) ∙ ap (λ (m : List ℕ). F ++ m) (append_assoc (padded w (cells x)) B (zeros k)) in
        let at : row * w ≡ length F = ap (λ (i : ℕ). i * w) e ∙ sym f in
        let many : length B ≡ behind * w = b ∙ ap (λ (i : ℕ). i * w) (sym g) in
        ap (λ (m : List ℕ). stored (raised (row * w) w (behind * w) m) (row * w) (cells x)) (ap (padded size) old ∙ p)
        ∙ ap (λ (m : List ℕ). stored m (row * w) (cells x)) (raised-over F (row * w) v at (behind * w) B (zeros k) many)
        ∙ stored-middle F (cells x) (B ++ zeros k) w (row * w) at fits
        ∙ sym q ∙ ap (padded size) (sym new)
