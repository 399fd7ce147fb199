-- Chains of places: of the places of one class, each names the next behind it.
use Rattle.std.specs.Prelude.{◌≡◌, ℕ, zero, suc, ◌+◌, ◌-◌, ◌<◌, ◌≤◌, Bool, true, false, cond, ◌==◌, ◌≢◌, nat_lt}
use native.Mathlib.Omega.{arith}
use Rattle.std.proofs.Math.Path.{refl, sym}
use Rattle.std.proofs.Common.{◌∙◌, eqb-true, ltb-true, ltb-false}
use Rattle.std.proofs.lemmas.Bool.{eqb-false}

-- one more than the last place before k that is of a class; 0 where there is none
unfoldable pub last_of : (ℕ → ℕ) → ℕ → ℕ → ℕ
last_of class sought zero = 0
last_of class sought (suc k) =
    let before = last_of class sought k in
    cond (class k == sought) (suc k) before

-- one more than the first of d places from k on that is of a class; 0 where there is none
unfoldable pub next_of : (ℕ → ℕ) → ℕ → ℕ → ℕ → ℕ
next_of class sought k zero = 0
next_of class sought k (suc d) =
    let behind = next_of class sought (k + 1) d in
    cond (class k == sought) (suc k) behind

-- one more than the lowest place before k where a test holds; where it holds nowhere, what was found so far
unfoldable pub lowest : (ℕ → Bool) → ℕ → ℕ → ℕ
lowest test zero found = found
lowest test (suc k) found = lowest test k (cond (test k) (suc k) found)

module _ (class : ℕ → ℕ) (sought : ℕ) where
  pub last-own : (k : ℕ) → (class k == sought) ≡ true → last_of class sought (suc k) ≡ suc k
  unfolding last_of
  last-own k e = rw e

  pub last_else : (k : ℕ) → (class k == sought) ≡ false → last_of class sought (suc k) ≡ last_of class sought k
  unfolding last_of
  last_else k e = rw e

  pub last_none : last_of class sought 0 ≡ 0
  unfolding last_of
  last_none = refl

  pub last-le : (k : ℕ) → last_of class sought k ≤ k
  last-le zero = omega (arith, last_none)
  last-le (suc k) = by (last-le k) (class k == sought) refl
    where
      by : last_of class sought k ≤ k → (b : Bool) → (class k == sought) ≡ b → last_of class sought (suc k) ≤ suc k
      by on true e = omega (arith, last-own k e)
      by on false e = omega (arith, last_else k e)

  pub last-class : (k : ℕ) → 0 < last_of class sought k → class (last_of class sought k - 1) ≡ sought
  last-class zero h = absurd (omega (arith, last_none))
  last-class (suc k) h = by (last-class k) (class k == sought) refl
    where
      by : (0 < last_of class sought k → class (last_of class sought k - 1) ≡ sought) → (b : Bool) → (class k == sought) ≡ b → class (last_of class sought (suc k) - 1) ≡ sought
      by on true e =
          let z : last_of class sought (suc k) - 1 ≡ k = omega (arith, last-own k e) in
          rw z (eqb-true (class k) sought e)
      by on false e = rw (last_else k e) (on (rw (last_else k e) at h))

  -- behind the last place of the class none is of it
  pub last-above : (k j : ℕ) → last_of class sought k ≤ j → j < k → class j ≢ sought
  last-above zero j h g e = omega arith
  last-above (suc k) j h g e = by (last-above k j) (class k == sought) refl (j == k) refl
    where
      by : (last_of class sought k ≤ j → j < k → class j ≢ sought) → (b : Bool) → (class k == sought) ≡ b → (d : Bool) → (j == k) ≢ d
      by on true p d q = omega (arith, last-own k p)
      by on false p true q = eqb-false (class k) sought p (rw (eqb-true j k q) at e)
      by on false p false q = on (omega (arith, last_else k p)) (omega (arith, eqb-false j k q)) e

  next-own : (k d : ℕ) → (class k == sought) ≡ true → next_of class sought k (suc d) ≡ suc k
  unfolding next_of
  next-own k d e = rw e

  next-else : (k d : ℕ) → (class k == sought) ≡ false → next_of class sought k (suc d) ≡ next_of class sought (k + 1) d
  unfolding next_of
  next-else k d e = rw e

  pub next-none : (k : ℕ) → next_of class sought k 0 ≡ 0
  unfolding next_of
  next-none k = refl

  -- with no place of the class, and where there is none
  pub next-zero : (k d : ℕ) → ((j : ℕ) → k ≤ j → j < k + d → class j ≢ sought) → next_of class sought k d ≡ 0
  next-zero k zero h = next-none k
  next-zero k (suc d) h = by (next-zero (k + 1) d) (class k == sought) refl
    where
      by : (((j : ℕ) → k + 1 ≤ j → j < k + 1 + d → class j ≢ sought) → next_of class sought (k + 1) d ≡ 0) → (b : Bool) → (class k == sought) ≡ b → next_of class sought k (suc d) ≡ 0
      by on true e = absurd (h k (omega arith) (omega arith) (eqb-true (class k) sought e))
      by on false e = next-else k d e ∙ on (λ j g i q. h j (omega arith) (omega arith) q)

  pub next-out : (k d : ℕ) → next_of class sought k d ≡ 0 → (j : ℕ) → k ≤ j → j < k + d → class j ≢ sought
  next-out k zero e j g i q = omega arith
  next-out k (suc d) e j g i q = by (next-out (k + 1) d) (class k == sought) refl (j == k) refl
    where
      by : (next_of class sought (k + 1) d ≡ 0 → (j : ℕ) → k + 1 ≤ j → j < k + 1 + d → class j ≢ sought) → (b : Bool) → (class k == sought) ≡ b → (c : Bool) → (j == k) ≢ c
      by on true p c r = omega (arith, next-own k d p)
      by on false p true r = eqb-false (class k) sought p (rw (eqb-true j k r) at q)
      by on false p false r = on (sym (next-else k d p) ∙ e) j (omega (arith, eqb-false j k r)) (omega arith) q

  -- what is known of one more than the first place of the class from k on, among d
  pub record Next (k d next : ℕ) : Type 0 where
    pub above : k < next
    pub within : next ≤ k + d
    pub own : class (next - 1) ≡ sought
    pub first : (j : ℕ) → k ≤ j → j < next - 1 → class j ≢ sought

  pub next-is : (k d next : ℕ) → Next k d next → next_of class sought k d ≡ next
  next-is k zero next w = absurd (omega (arith, w.above, w.within))
  next-is k (suc d) next w = by (next-is (k + 1) d next) (class k == sought) refl (next - 1 == k) refl
    where
      by : (Next (k + 1) d next → next_of class sought (k + 1) d ≡ next) → (b : Bool) → (class k == sought) ≡ b → (c : Bool) → (next - 1 == k) ≡ c → next_of class sought k (suc d) ≡ next
      by on true p true q = next-own k d p ∙ omega (arith, eqb-true (next - 1) k q, w.above)
      by on true p false q = absurd (w.first k (omega arith) (omega (arith, eqb-false (next - 1) k q, w.above)) (eqb-true (class k) sought p))
      by on false p true q = absurd (eqb-false (class k) sought p (rw (eqb-true (next - 1) k q) at w.own))
      by on false p false q = next-else k d p ∙ on (record { above = omega (arith, eqb-false (next - 1) k q, w.above); within = omega (arith, w.within); own = w.own; first = λ j g i. w.first j (omega arith) i })

  pub next-some : (k d : ℕ) → 0 < next_of class sought k d → Next k d (next_of class sought k d)
  next-some k zero h = absurd (omega (arith, next-none k))
  next-some k (suc d) h = by (next-some (k + 1) d) (class k == sought) refl
    where
      by : (0 < next_of class sought (k + 1) d → Next (k + 1) d (next_of class sought (k + 1) d)) → (b : Bool) → (class k == sought) ≡ b → Next k (suc d) (next_of class sought k (suc d))
      by on true p =
          let z : suc k - 1 ≡ k = omega arith in
          rw (next-own k d p) (record { above = omega arith; within = omega arith; own = rw z (eqb-true (class k) sought p); first = λ j g i q. omega arith })
      by on false p =
          let w = on (rw (next-else k d p) at h) in
          rw (next-else k d p) (record { above = omega (arith, w.above); within = omega (arith, w.within); own = w.own; first = λ j g i q. later w j g i q (j == k) refl })
        where
          later : Next (k + 1) d (next_of class sought (k + 1) d) → (j : ℕ) → k ≤ j → j < next_of class sought (k + 1) d - 1 → class j ≡ sought → (b : Bool) → (j == k) ≢ b
          later w j g i q true r = eqb-false (class k) sought p (rw (eqb-true j k r) at q)
          later w j g i q false r = w.first j (omega (arith, eqb-false j k r)) i q

  -- one place more: where one was found, where the place is the first, and where it is of another class
  pub next-kept : (k d : ℕ) → 0 < next_of class sought k d → next_of class sought k (suc d) ≡ next_of class sought k d
  next-kept k d h =
      let w = next-some k d h in
      next-is k (suc d) (next_of class sought k d) (record { above = w.above; within = omega (arith, w.within); own = w.own; first = w.first })

  pub next-new : (k d : ℕ) → next_of class sought k d ≡ 0 → class (k + d) ≡ sought → next_of class sought k (suc d) ≡ suc (k + d)
  next-new k d e q =
      let z : suc (k + d) - 1 ≡ k + d = omega arith in
      next-is k (suc d) (suc (k + d)) (record { above = omega arith; within = omega arith; own = rw z q; first = λ j g i. next-out k d e j g (omega arith) })

  pub next-still : (k d : ℕ) → (class (k + d) ≢ sought) → next_of class sought k (suc d) ≡ next_of class sought k d
  next-still k d h = by (nat_lt 0 (next_of class sought k d)) refl
    where
      by : (b : Bool) → nat_lt 0 (next_of class sought k d) ≡ b → next_of class sought k (suc d) ≡ next_of class sought k d
      by true e = next-kept k d (ltb-true 0 (next_of class sought k d) e)
      by false e =
          let none : next_of class sought k d ≡ 0 = omega (arith, ltb-false 0 (next_of class sought k d) e) in
          next-zero k (suc d) (λ j g i q. at-end none j g i q (j == k + d) refl) ∙ sym none
        where
          at-end : next_of class sought k d ≡ 0 → (j : ℕ) → k ≤ j → j < k + suc d → class j ≡ sought → (c : Bool) → (j == k + d) ≢ c
          at-end none j g i q true r = h (rw (eqb-true j (k + d) r) at q)
          at-end none j g i q false r = next-out k d none j g (omega (arith, eqb-false j (k + d) r)) q

pub last-same : (class other : ℕ → ℕ) (sought k : ℕ) → ((j : ℕ) → j < k → class j ≡ other j) → last_of class sought k ≡ last_of other sought k
unfolding last_of
last-same class other sought zero h = refl
last-same class other sought (suc k) h = rw (h k (omega arith), last-same class other sought k (λ j g. h j (omega arith)))

pub next-same : (class other : ℕ → ℕ) (sought k d : ℕ) → ((j : ℕ) → j < k + d → class j ≡ other j) → next_of class sought k d ≡ next_of other sought k d
unfolding next_of
next-same class other sought k zero h = refl
next-same class other sought k (suc d) h = rw (h k (omega arith), next-same class other sought (k + 1) d (λ j g. h j (omega arith)))

module _ (test : ℕ → Bool) (k found : ℕ) where
  pub lowest-hit : test k ≡ true → lowest test (suc k) found ≡ lowest test k (suc k)
  unfolding lowest
  lowest-hit e = rw e

  pub lowest-miss : test k ≡ false → lowest test (suc k) found ≡ lowest test k found
  unfolding lowest
  lowest-miss e = rw e

-- where the test holds at no place, and where it first holds
pub lowest-empty : (test : ℕ → Bool) (k found : ℕ) → ((j : ℕ) → j < k → test j ≡ false) → lowest test k found ≡ found
unfolding lowest
lowest-empty test zero found h = refl
lowest-empty test (suc k) found h = rw (h k (omega arith)) (lowest-empty test k found (λ j g. h j (omega arith)))

pub lowest-first : (test : ℕ → Bool) (k n found : ℕ) → k < n → test k ≡ true → ((j : ℕ) → j < k → test j ≡ false) → lowest test n found ≡ suc k
lowest-first test k zero found g e h = absurd (omega arith)
lowest-first test k (suc n) found g e h = by (lowest-first test k n) (k == n) refl
  where
    step : (b : Bool) → test n ≡ b → lowest test (suc n) found ≡ lowest test n (cond b (suc n) found)
    step true p = lowest-hit test n found p
    step false p = lowest-miss test n found p

    by : ((then : ℕ) → k < n → test k ≡ true → ((j : ℕ) → j < k → test j ≡ false) → lowest test n then ≡ suc k) → (b : Bool) → (k == n) ≡ b → lowest test (suc n) found ≡ suc k
    by on true q =
        let is : k ≡ n = eqb-true k n q in
        rw (← is) (lowest-hit test k found e ∙ lowest-empty test k (suc k) h)
    by on false q = step (test n) refl ∙ on (cond (test n) (suc n) found) (omega (arith, eqb-false k n q)) e h

-- the place that was found is one where the test holds
pub lowest-holds : (test : ℕ → Bool) (k found : ℕ) → ((found ≢ 0) → test (found - 1) ≡ true) → (lowest test k found ≢ 0) → test (lowest test k found - 1) ≡ true
unfolding lowest
lowest-holds test zero found h z = h z
lowest-holds test (suc k) found h z = by (lowest-holds test k) (test k) refl
  where
    by : ((then : ℕ) → ((then ≢ 0) → test (then - 1) ≡ true) → (lowest test k then ≢ 0) → test (lowest test k then - 1) ≡ true) → (b : Bool) → test k ≡ b → test (lowest test (suc k) found - 1) ≡ true
    by on true e = let is : suc k - 1 ≡ k = omega arith in rw e (on (suc k) (λ q. rw is e) (λ q. z (rw e q)))
    by on false e = rw e (on found h (λ q. z (rw e q)))

-- a test that holds only where a wider one does
module _ (test wider : ℕ → Bool) (within : (j : ℕ) → test j ≡ true → wider j ≡ true) where
  misses : (k : ℕ) → wider k ≡ false → (b : Bool) → test k ≡ b → test k ≡ false
  misses k e true p = let z : ◌≡◌ {A = Bool} false true = sym e ∙ within k p in let q : ◌≡◌ {A = ℕ} 0 1 = cc in absurd (omega arith)
  misses k e false p = p

  -- where the wider one holds nowhere, nor does the test
  pub lowest-none : (k found : ℕ) → lowest wider k found ≡ 0 → (found ≡ 0) × (lowest test k 0 ≡ 0)
  unfolding lowest
  lowest-none zero found e = (e, refl)
  lowest-none (suc k) found e = by (lowest-none k) (wider k) refl
    where
      by : ((then : ℕ) → lowest wider k then ≡ 0 → (then ≡ 0) × (lowest test k 0 ≡ 0)) → (b : Bool) → wider k ≡ b → (found ≡ 0) × (lowest test (suc k) 0 ≡ 0)
      by on true p = let none = on (suc k) (rw p at e) in absurd (omega (arith, none.0))
      by on false p = let none = on found (rw p at e) in (none.0, rw (misses k p (test k) refl) none.1)

  -- where the test holds at the lowest place at which the wider one does, it is the test's lowest place too
  pub lowest-same : (k found then place : ℕ) → lowest wider k found ≡ place → test (place - 1) ≡ true → (place ≡ found → then ≡ found) → lowest test k then ≡ place
  unfolding lowest
  lowest-same zero found then place e t h = h (sym e) ∙ e
  lowest-same (suc k) found then place e t h = by (lowest-same k) (wider k) refl (test k) refl
    where
      by : ((found then place : ℕ) → lowest wider k found ≡ place → test (place - 1) ≡ true → (place ≡ found → then ≡ found) → lowest test k then ≡ place) → (b : Bool) → wider k ≡ b → (d : Bool) → test k ≡ d → lowest test (suc k) then ≡ place
      by on true p true q = rw q (on (suc k) (suc k) place (rw p at e) t (λ z. refl))
      by on true p false q = rw q (on (suc k) then place (rw p at e) t (λ z. absurd (never z)))
        where
          never : place ≡ suc k → ⊥
          never z =
              let is : place - 1 ≡ k = omega arith in
              let u : ◌≡◌ {A = Bool} false true = sym q ∙ (rw is at t) in
              let v : ◌≡◌ {A = ℕ} 0 1 = cc in
              omega arith
      by on false p d q = rw (misses k p (test k) refl) (on found then place (rw p at e) t h)
