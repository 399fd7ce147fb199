-- 10 by a search over all pairs of activities: the first that stands among those before it, and why that is the rule's own answer.
use Rattle.std.specs.Prelude.{ℕ, zero, suc, ◌+◌, ◌≤◌, ◌<◌, ◌≡◌, refl, List, [], ◌∷◌, ◌++◌, Bool, true, false, cond, length, get_or, take, drop}
use Rattle.std.proofs.Common.{sym, ◌∙◌, arith, add-one, eq-eqb, ne_eqb, drop_of_length-le, length-append, drop-cons, get_or-take, length-take-le}
use Rattle.std.proofs.Math.ListN.{get_or-append}
use Rattle.std.proofs.lemmas.List.{take-append-le}
use Rattle.std.proofs.Math.Seq.{take-append_seam, get_or-append_seam}
use Rattle.refusals.specs.Refusals.{among}

-- the place of the first number that stands among those before it, from `at` on; the length where there is none
unfoldable pub twice_in : List ℕ → List ℕ → ℕ → ℕ
twice_in whole [] at = at
twice_in whole (number ∷ numbers) at =
    let on = twice_in whole numbers (at + 1) in
    cond (among number (take at whole)) at on

-- the first place from here on whose number stood before it
abbrev pub twice_from : List ℕ → ℕ → ℕ
twice_from whole at = twice_in whole (drop at whole) at

-- the first place whose number stood before it
abbrev pub twice_of : List ℕ → ℕ
twice_of whole = twice_from whole 0

step-at : (s : List ℕ) (i : ℕ) → i < length s → drop i s ≡ get_or s i 0 ∷ drop (i + 1) s
step-at s i h = rw (add-one, drop-cons s i 0)

-- ---- the outer search, one place on

module _ (s : List ℕ) (j : ℕ) where
  pub twice-end : length s ≤ j → twice_from s j ≡ j
  unfolding twice_in
  twice-end h = rw (drop_of_length-le s h)

  pub twice-on : j < length s → among (get_or s j 0) (take j s) ≡ false → twice_from s j ≡ twice_from s (j + 1)
  unfolding twice_in
  twice-on h e = rw (step-at s j h) (simp e)

  pub twice-out : j < length s → among (get_or s j 0) (take j s) ≡ true → twice_from s j ≡ j
  unfolding twice_in
  twice-out h e = rw (step-at s j h) (simp e)

-- ---- the inner search, one place on: is the number among the first j?

module _ (number : ℕ) (s : List ℕ) (j i : ℕ) (g : j ≤ length s) where
  here : i < j → drop i (take j s) ≡ get_or s i 0 ∷ drop (i + 1) (take j s)
  here h = step-at (take j s) i (rw (length-take-le j s g) h) ∙ rw (get_or-take j s i 0 h)

  pub among-end : j ≤ i → among number (drop i (take j s)) ≡ false
  unfolding among
  among-end h = rw (drop_of_length-le (take j s) {i = i} (rw (length-take-le j s g) h))

  pub among-on : i < j → (get_or s i 0 ≡ number → ⊥) → among number (drop i (take j s)) ≡ among number (drop (i + 1) (take j s))
  unfolding among
  among-on h n = rw (here h) (simp (ne_eqb _ _ n))

  pub among-out : i < j → get_or s i 0 ≡ number → among number (drop i (take j s)) ≡ true
  unfolding among
  among-out h e = rw (here h) (simp (eq-eqb _ _ e))

-- ---- one activity more

step : (l : List ℕ) (x j : ℕ) {w : ℕ} → j < length l → twice_from l j ≡ length l → (twice_from l (j + 1) ≡ length l → twice_from (l ++ (x ∷ [])) (j + 1) ≡ w) → (b : Bool) → among (get_or l j 0) (take j l) ≡ b → twice_from (l ++ (x ∷ [])) j ≡ w
step l x j k q on true r = absurd (omega (arith, twice-out l j k r, q, k))
step l x j k q on false r =
    twice-on (l ++ (x ∷ [])) j (omega (arith, length-append l (x ∷ []), k)) (rw (get_or-append l (x ∷ []) 0 j k, take-append-le j l (x ∷ []) (omega (arith, k))) r)
    ∙ on (sym (twice-on l j k r) ∙ q)

-- where no two were the same, the search with one more finds it just where the rule of 10 is broken: it stands among those before it
pub twice-more : (l : List ℕ) (x : ℕ) → twice_of l ≡ length l → twice_of (l ++ (x ∷ [])) ≡ cond (among x l) (length l) (length l + 1)
twice-more l x e = go (length l) 0 (omega arith) e
  where
    m : List ℕ
    m = l ++ (x ∷ [])

    long : length m ≡ length l + 1
    long = length-append l (x ∷ [])

    last : (b : Bool) → among x l ≡ b → twice_from m (length l) ≡ cond b (length l) (length l + 1)
    last true q = twice-out m (length l) (omega (arith, long)) (rw (get_or-append_seam l x [] 0, take-append_seam l (x ∷ [])) q)
    last false q = twice-on m (length l) (omega (arith, long)) (rw (get_or-append_seam l x [] 0, take-append_seam l (x ∷ [])) q) ∙ twice-end m (length l + 1) (omega (arith, long))

    go : (n j : ℕ) → j + n ≡ length l → twice_from l j ≡ length l → twice_from m j ≡ cond (among x l) (length l) (length l + 1)
    go zero j h q = let p : j ≡ length l = omega (arith, h) in rw p (last (among x l) refl)
    go (suc n) j h q = step l x j (omega (arith, h)) q (λ r. go n (j + 1) (omega (arith, h)) r) (among (get_or l j 0) (take j l)) refl
