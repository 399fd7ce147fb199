-- What a walk asks of a row, by its kind: whether its item is the last, and how many names it declares.
use Prim.Native.Nat.{ℕ, ◌≤◌}
use native.Mathlib.Omega.{arith}
use mathlib.Core.Path.{◌≡◌, refl, sym}
use mathlib.Core.Bool.{Bool, true, false, not, cond}
use mathlib.Core.List.{List}
use lib.Dec.{eqb, ltb}
use lib.ListN.{get_or}
use borrow.Author.Tests.{eqb-false, ne_eqb, lt-ltb, le-ltb, ltb-false}
use Rattle.text.specs.declared.Item.{Item}
use Rattle.text.specs.Items.{goes}
use Rattle.kept.specs.Rows.{fields_in, item_of}
use Rattle.kept.specs.Kinds.{each-kind}
use Rattle.build.specs.Walks.{declaring}

-- names are declared by the kinds 2 to 7, and 9
abbrev declaring_by : ℕ → ℕ
declaring_by k = cond (ltb 9 k) 0 (cond (ltb k 2) 0 (cond (eqb k 8) 0 1))

module _ (k : ℕ) where
  pub declares-none : (2 ≤ k → k ≤ 9 → k ≡ 8) → 0 ≡ declaring_by k
  declares-none h = go (ltb 9 k) refl (ltb k 2) refl (eqb k 8) refl
    where
      go : (x : Bool) → ltb 9 k ≡ x → (y : Bool) → ltb k 2 ≡ y → (z : Bool) → eqb k 8 ≡ z → ◌≡◌ {A = ℕ} 0 (cond x 0 (cond y 0 (cond z 0 1)))
      go true p y q z r = refl
      go false p true q z r = refl
      go false p false q true r = refl
      go false p false q false r = absurd (eqb-false k 8 r (h (ltb-false k 2 q) (ltb-false 9 k p)))

  pub declares-one : 2 ≤ k → k ≤ 9 → (k ≡ 8 → ⊥) → 1 ≡ declaring_by k
  declares-one p q r = simp (le-ltb 9 k q, le-ltb k 2 p, ne_eqb k 8 r)

abbrev Told : ℕ → Item → Type 0
Told k item = (not (goes item) ≡ ltb 18 k) × (declaring item ≡ declaring_by k)

module _ (row : List ℕ) where
  told : Told (get_or row 0 0) (item_of (fields_in row))
  told =
      each-kind row Told
      (refl, refl)
      (refl, refl)
      (refl, refl)
      (refl, refl)
      (refl, refl)
      (refl, refl)
      (refl, refl)
      (refl, refl)
      (refl, refl)
      (refl, refl)
      (refl, refl)
      (refl, refl)
      (refl, refl)
      (refl, refl)
      (refl, refl)
      (refl, refl)
      (refl, refl)
      (refl, refl)
      (refl, refl)
      (refl, refl)
      (λ k l. (sym (lt-ltb 18 k (omega arith)), sym (rw (lt-ltb 9 k (omega arith)))))

  pub last-kind : not (goes (item_of (fields_in row))) ≡ ltb 18 (get_or row 0 0)
  last-kind = told.0

  pub declaring-kind : declaring (item_of (fields_in row)) ≡ declaring_by (get_or row 0 0)
  declaring-kind = told.1
