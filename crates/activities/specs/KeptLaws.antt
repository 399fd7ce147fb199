-- Laws of what is kept: numbers up to a bound, and searches in the numbers of a mode.
use Rattle.std.specs.Prelude.{ℕ, ◌+◌, ◌*◌, ◌≤◌, ◌<◌, ◌%◌, min, ◌≡◌, refl, List, [], ◌∷◌, Bool, true, false, cond, ◌&&◌, ◌||◌, eqb, ltb, length, get_or, take, drop}
use Rattle.std.specs.List.{list_all, list_any}
use Rattle.std.proofs.Common.{◌∙◌, arith, add-one, ltb-true, ltb-false, lt-ltb, le-ltb, eqb-true, eq-eqb, ne_eqb, drop_of_length-le, drop-cons, get_or-take, length-take-le, take_all}
use Rattle.std.proofs.lemmas.Bool.{eqb-false}
use Rattle.std.proofs.Math.Seq.{take-length}
use Rattle.text.specs.declared.Name.{Name}
use Rattle.model.specs.Rooms.{frequency_room, period_room}
use Rattle.refusals.specs.Refusals.{beyond, divides_all, among}
use Rattle.refusals.specs.Values.{number_of}
use Rattle.refusals.specs.Activities.{period_at}
use Rattle.activities.specs.Kept.{period_kept}

-- ---- numbers

-- what is within a limit is not 0, and at most the limit
pub within : (limit number : ℕ) → beyond limit number ≡ false → (0 < number) × (number ≤ limit)
within limit number e = by (eqb number 0) refl (ltb limit number) refl e
  where
    by : (b : Bool) → eqb number 0 ≡ b → (d : Bool) → ltb limit number ≡ d → (b || d) ≡ false → (0 < number) × (number ≤ limit)
    by true p d q e = let z : ◌≡◌ {A = ℕ} 0 1 = cc in absurd (omega arith)
    by false p true q e = let z : ◌≡◌ {A = ℕ} 0 1 = cc in absurd (omega arith)
    by false p false q e = (omega (arith, eqb-false number 0 p), ltb-false limit number q)

-- two numbers that are 0 together, and above a limit together, are beyond it together
both-beyond : (limit kept number : ℕ) → (kept ≡ 0 → number ≡ 0) → (number ≡ 0 → kept ≡ 0) → (number ≤ limit → kept ≤ limit) → (limit < number → limit < kept) → beyond limit kept ≡ beyond limit number
both-beyond limit kept number a b c d = by (eqb number 0) refl (ltb limit number) refl
  where
    by : (x : Bool) → eqb number 0 ≡ x → (y : Bool) → ltb limit number ≡ y → beyond limit kept ≡ (x || y)
    by true p y q = simp (eq-eqb kept 0 (b (eqb-true number 0 p)))
    by false p true q = simp (ne_eqb kept 0 (λ z. eqb-false number 0 p (a z)), lt-ltb limit kept (d (ltb-true limit number q)))
    by false p false q = simp (ne_eqb kept 0 (λ z. eqb-false number 0 p (a z)), le-ltb limit kept (c (ltb-false limit number q)))

-- a number that is kept up to 4294967296 is beyond a room where the number is
pub number-kept : (number : ℕ) → beyond frequency_room (min number 4294967296) ≡ beyond frequency_room number
number-kept number = both-beyond frequency_room (min number 4294967296) number (λ p. omega arith) (λ p. omega arith) (λ p. omega arith) (λ p. omega arith)

pub period-kept : (s : List ℕ) (digits : Name) (milli : Bool) → beyond period_room (period_kept s digits milli) ≡ beyond period_room (period_at s digits milli)
period-kept s digits milli = by milli (number_of s digits)
  where
    by : (b : Bool) (number : ℕ) → beyond period_room (cond b (min number 4294967296 * 1000) (min number 4294967296)) ≡ beyond period_room (cond b (number * 1000) number)
    by true number = both-beyond period_room (min number 4294967296 * 1000) (number * 1000) (λ p. omega arith) (λ p. omega arith) (λ p. omega arith) (λ p. omega arith)
    by false number = both-beyond period_room (min number 4294967296) number (λ p. omega arith) (λ p. omega arith) (λ p. omega arith) (λ p. omega arith)

-- ---- numbers of a mode, from a place on

step-at : (l : List ℕ) (i : ℕ) → i < length l → drop i l ≡ get_or l i 0 ∷ drop (i + 1) l
step-at l i h = rw (add-one, drop-cons l i 0)

-- as many as there are
pub take-least : (n : ℕ) (l : List ℕ) → take (min n (length l)) l ≡ take n l
take-least n l = by (ltb n (length l)) refl
  where
    by : (b : Bool) → ltb n (length l) ≡ b → take (min n (length l)) l ≡ take n l
    by true e =
        let p = ltb-true n (length l) e in
        let q : min n (length l) ≡ n = omega arith in
        rw q
    by false e =
        let p = ltb-false n (length l) e in
        let q : min n (length l) ≡ length l = omega arith in
        rw (q, take_all n l p, take-length l)

module _ (frequency : ℕ) (l : List ℕ) (n i : ℕ) (g : n ≤ length l) where
  here : i < n → drop i (take n l) ≡ get_or l i 0 ∷ drop (i + 1) (take n l)
  here h = step-at (take n l) i (rw (length-take-le n l g) h) ∙ rw (get_or-take n l i 0 h)

  pub divides-end : n ≤ i → divides_all frequency (drop i (take n l)) ≡ true
  unfolding divides_all
  divides-end h = rw (drop_of_length-le (take n l) {i = i} (rw (length-take-le n l g) h))

  pub divides-on : i < n → get_or l i 0 % frequency ≡ 0 → divides_all frequency (drop i (take n l)) ≡ divides_all frequency (drop (i + 1) (take n l))
  unfolding divides_all
  divides-on h e = rw (here h) (simp (eq-eqb _ _ e))

  pub divides-out : i < n → (get_or l i 0 % frequency ≡ 0 → ⊥) → divides_all frequency (drop i (take n l)) ≡ false
  unfolding divides_all
  divides-out h e = rw (here h) (simp (ne_eqb _ _ e))

pub ruleset divides_laws = (divides-out, divides-on)

-- ---- the library's searches

pub all-divided : (frequency : ℕ) (l : List ℕ) → list_all (λ number. eqb (number % frequency) 0) l ≡ divides_all frequency l
unfolding divides_all
all-divided frequency [] = refl
all-divided frequency (number ∷ numbers) = by (eqb (number % frequency) 0) (all-divided frequency numbers)
  where
    by : (b : Bool) → list_all (λ number. eqb (number % frequency) 0) numbers ≡ divides_all frequency numbers → (b && list_all (λ number. eqb (number % frequency) 0) numbers) ≡ cond b (divides_all frequency numbers) false
    by true e = e
    by false e = refl

pub any-among : (number : ℕ) (l : List ℕ) → list_any (λ other. eqb other number) l ≡ among number l
unfolding among
any-among number [] = refl
any-among number (other ∷ others) = by (eqb other number) (any-among number others)
  where
    by : (b : Bool) → list_any (λ other. eqb other number) others ≡ among number others → (b || list_any (λ other. eqb other number) others) ≡ cond b true (among number others)
    by true e = refl
    by false e = e
