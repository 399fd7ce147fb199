-- How runs of bytes, equal words and the value of digits go by the byte at a place.
use Rattle.std.specs.Prelude.{ℕ, suc, ◌+◌, ◌*◌, ◌-◌, ◌≤◌, ◌<◌, min, ◌≡◌, refl, List, [], ◌∷◌, Bool, true, false, cond, length, get_or, drop, eqb, T}
use Rattle.std.proofs.Common.{ap, arith, add-one, drop_of_length-le, eq-eqb, ne_eqb, eqb-true}
use Rattle.std.proofs.Math.Seq.{slice, slice-cons, slice_empty}
use Rattle.model.specs.Bytes.{same}
use Rattle.text.specs.Words.{munch, munch_at, value_from}
use Rattle.text.proofs.SpacesLaws.{drop-step}

pub slice-step : (s : List ℕ) (i e : ℕ) → i < e → e ≤ length s → slice i e s ≡ get_or s i 0 ∷ slice (i + 1) e s
slice-step s i e h g = rw (add-one, slice-cons i e s 0)

-- ---- the longest run
module _ (p : ℕ → Bool) (s : List ℕ) (i : ℕ) where
  pub munch-end : length s ≤ i → munch_at p s i ≡ i
  unfolding munch
  munch-end h = rw (drop_of_length-le s h)

  pub munch-on : i < length s → p (get_or s i 0) ≡ true → munch_at p s i ≡ munch_at p s (i + 1)
  unfolding munch
  munch-on h e = rw (drop-step s i h) (simp e)

  pub munch-out : i < length s → p (get_or s i 0) ≡ false → munch_at p s i ≡ i
  unfolding munch
  munch-out h e = rw (drop-step s i h) (simp e)

-- ---- equal words

module _ (s w : List ℕ) (i j e : ℕ) (h : i < e) (g : e ≤ length s) (k : j < length w) where
  pub same-on : get_or s i 0 ≡ get_or w j 0 → same (slice i e s) (drop j w) ≡ same (slice (i + 1) e s) (drop (j + 1) w)
  unfolding same
  same-on q = rw (slice-step s i e h g, drop-step w j k) (simp (eq-eqb _ _ q))

  pub same_out : (get_or s i 0 ≡ get_or w j 0 → ⊥) → same (slice i e s) (drop j w) ≡ false
  unfolding same
  same_out q = rw (slice-step s i e h g, drop-step w j k) (simp (ne_eqb _ _ q))

pub same_end : (s w : List ℕ) (i j e : ℕ) → i ≡ e → length w ≤ j → same (slice i e s) (drop j w) ≡ true
unfolding same
same_end s w i j e p h = rw (p, slice_empty e s, drop_of_length-le w h)

-- words of two lengths are not the same
pub same-lengths : (a b : List ℕ) → (length a ≡ length b → ⊥) → same a b ≡ false
unfolding same
same-lengths [] [] n = absurd (n refl)
same-lengths [] (y ∷ ys) n = refl
same-lengths (x ∷ xs) [] n = refl
same-lengths (x ∷ xs) (y ∷ ys) n = go (eqb x y) (same-lengths xs ys (λ p. n (ap suc p)))
  where
    go : (t : Bool) → same xs ys ≡ false → cond t (same xs ys) false ≡ false
    go true e = e
    go false e = refl

pub same→eq : (a b : List ℕ) → T (same a b) → a ≡ b
unfolding same
same→eq [] [] t = refl
same→eq [] (y ∷ ys) t = absurd t
same→eq (x ∷ xs) [] t = absurd t
same→eq (x ∷ xs) (y ∷ ys) t = go (eqb x y) refl t (λ u. same→eq xs ys u)
  where
    go : (q : Bool) → eqb x y ≡ q → T (cond q (same xs ys) false) → (T (same xs ys) → xs ≡ ys) → x ∷ xs ≡ y ∷ ys
    go true e u f = let p = eqb-true x y e in let r = f u in cc
    go false e u f = absurd u

-- ---- the value of digits
module _ (s : List ℕ) (i e n : ℕ) where
  pub value-end : i ≡ e → value_from n (slice i e s) ≡ n
  unfolding value_from
  value-end p = rw (p, slice_empty e s)

  pub value_on : i < e → e ≤ length s → value_from n (slice i e s) ≡ value_from (n * 10 + (get_or s i 0 - 48)) (slice (i + 1) e s)
  unfolding value_from
  value_on h g = rw (slice-step s i e h g)

-- a value that is kept below a cap goes on as if it were exact
pub value-capped : (n d : ℕ) → min (min n 4294967296 * 10 + d) 4294967296 ≡ min (n * 10 + d) 4294967296
value-capped n d = omega arith
