-- Values put into cells one after the other: past the end nothing is put.
use Rattle.std.proofs.Common.{ℕ, zero, suc, ◌+◌, ◌-◌, ◌≤◌, ◌≡◌, min, refl, sym, ap, ◌∙◌, List, [], ◌∷◌, ◌++◌, length, take, drop, set, arith, length-take-le, take_all}
use Rattle.std.proofs.lemmas.List.{take-append-drop}
use Rattle.std.proofs.lemmas.List.Edits.{sets, sets-eq}
use Rattle.std.proofs.Math.Seq.{set_out, length-sets}

module _ {A : Type 0} where
  pub sets-past : (vs l : List A) (i : ℕ) → length l ≤ i → sets l i vs ≡ l
  sets-past [] l i h = refl
  sets-past (v ∷ vs) l i h = ap (λ (m : List A). sets m (suc i) vs) (set_out l i v h) ∙ sets-past vs l (suc i) (omega arith)

  sets-append : (vs ws l : List A) (i : ℕ) → sets l i (vs ++ ws) ≡ sets (sets l i vs) (i + length vs) ws
  sets-append [] ws l i = ap (λ (k : ℕ). sets l k ws) (omega arith)
  sets-append (v ∷ vs) ws l i = sets-append vs ws (set l i v) (suc i) ∙ ap (λ (k : ℕ). sets (sets (set l i v) (suc i) vs) k ws) (omega arith)

  -- the first of them that have room
  pub stores-eq : (vs l : List A) (i n : ℕ) → i ≤ length l → n ≡ min (length vs) (length l - i) → take i l ++ take n vs ++ drop (i + n) l ≡ sets l i vs
  stores-eq vs l i n h e =
      let long : length (take n vs) ≡ n = length-take-le n vs (omega arith) in
      let fits : i + length (take n vs) ≤ length l = omega arith in
      let front : sets l i (take n vs) ≡ take i l ++ take n vs ++ drop (i + n) l = sets-eq (take n vs) l i fits ∙ ap (λ (k : ℕ). take i l ++ take n vs ++ drop (i + k) l) long in
      sym front ∙ by (length vs - n) refl
    where
      by : (m : ℕ) → length vs - n ≡ m → sets l i (take n vs) ≡ sets l i vs
      by zero q = ap (λ (w : List A). sets l i w) (take_all n vs (omega arith))
      by (suc m) q =
          let long : length (take n vs) ≡ n = length-take-le n vs (omega arith) in
          let far : length (sets l i (take n vs)) ≤ i + length (take n vs) = omega (arith, length-sets l i (take n vs)) in
          sym (ap (λ (w : List A). sets l i w) (sym (take-append-drop n vs)) ∙ sets-append (take n vs) (drop n vs) l i ∙ sets-past (drop n vs) (sets l i (take n vs)) (i + length (take n vs)) far)
