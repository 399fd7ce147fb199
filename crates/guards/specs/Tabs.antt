-- A list given by its elements.
use Prim.Native.Nat.{ℕ, zero, suc, ◌≤◌, ◌<◌}
use Rattle.std.proofs.Common.{arith}
use Rattle.std.specs.Prelude.{◌≡◌, length, get_or, drop}
use Rattle.std.proofs.Math.Path.{refl, ap, ap₂}
use mathlib.Core.List.{List, [], ◌∷◌}

module _ {A : Type 0} where
  -- the n elements at 0 to n - 1
  unfoldable pub tab : (ℕ → A) → ℕ → List A
  tab at zero = []
  tab at (suc n) = at 0 ∷ tab (λ i. at (suc i)) n

  pub length-tab : (at : ℕ → A) (n : ℕ) → length (tab at n) ≡ n
  unfolding tab
  length-tab at zero = refl
  length-tab at (suc n) = ap suc (length-tab (λ i. at (suc i)) n)

  pub within-tab : (at : ℕ → A) (n i : ℕ) (blank : A) → i < n → get_or (tab at n) i blank ≡ at i
  unfolding tab
  within-tab at zero i blank within = absurd (omega arith)
  within-tab at (suc n) zero blank within = refl
  within-tab at (suc n) (suc i) blank within = within-tab (λ j. at (suc j)) n i blank (omega arith)

  pub past-tab : (at : ℕ → A) (n i : ℕ) (blank : A) → n ≤ i → get_or (tab at n) i blank ≡ blank
  unfolding tab
  past-tab at zero i blank past = refl
  past-tab at (suc n) zero blank past = absurd (omega arith)
  past-tab at (suc n) (suc i) blank past = past-tab (λ j. at (suc j)) n i blank (omega arith)

  -- from an element on, and past the end
  pub drop-tab : (at : ℕ → A) (n i : ℕ) → i < n → drop i (tab at n) ≡ at i ∷ drop (suc i) (tab at n)
  unfolding tab
  drop-tab at zero i within = absurd (omega arith)
  drop-tab at (suc n) zero within = refl
  drop-tab at (suc n) (suc i) within = drop-tab (λ j. at (suc j)) n i (omega arith)

  pub drop_past : (at : ℕ → A) (n i : ℕ) → n ≤ i → drop i (tab at n) ≡ []
  unfolding tab
  drop_past at zero zero past = refl
  drop_past at zero (suc i) past = refl
  drop_past at (suc n) zero past = absurd (omega arith)
  drop_past at (suc n) (suc i) past = drop_past (λ j. at (suc j)) n i (omega arith)

  pub same-tab : (at other : ℕ → A) (n : ℕ) → ((i : ℕ) → i < n → at i ≡ other i) → tab at n ≡ tab other n
  unfolding tab
  same-tab at other zero same = refl
  same-tab at other (suc n) same = ap₂ ◌∷◌ (same 0 (omega arith)) (same-tab (λ i. at (suc i)) (λ i. other (suc i)) n (λ i within. same (suc i) (omega arith)))
