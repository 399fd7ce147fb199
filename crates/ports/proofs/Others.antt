-- The rows whose items put nothing into the arrays.
use Prim.Native.Nat.{ℕ, ◌≤◌, ◌<◌}
use native.Mathlib.Omega.{arith}
use mathlib.Core.Path.{◌≡◌, refl}
use mathlib.Core.List.{List}
use lib.ListN.{get_or}
use Rattle.text.specs.declared.Item.{Item}
use Rattle.refusals.specs.declared.Row.{Row}
use Rattle.kept.specs.Rows.{fields_in, item_of}
use Rattle.kept.specs.Kinds.{each-kind}
use Rattle.ports.specs.Boards.{placed_by}
use Rattle.ports.specs.Parts.{Still}
use Rattle.ports.specs.declared.Ports.{Ports}

module _ (row : List ℕ) where
  pub others : (get_or row 0 0 ≡ 0 → ⊥) → (3 ≤ get_or row 0 0 → 8 < get_or row 0 0) → Still (item_of (fields_in row))
  unfolding placed_by
  others =
      each-kind row (λ (n : ℕ) (item : Item). (n ≡ 0 → ⊥) → (3 ≤ n → 8 < n) → Still item)
      (λ z w. absurd (z refl))
      (λ z w. record { same = λ s rows b. refl })
      (λ z w. record { same = λ s rows b. refl })
      (λ z w. absurd (omega (arith, w (omega arith))))
      (λ z w. absurd (omega (arith, w (omega arith))))
      (λ z w. absurd (omega (arith, w (omega arith))))
      (λ z w. absurd (omega (arith, w (omega arith))))
      (λ z w. absurd (omega (arith, w (omega arith))))
      (λ z w. absurd (omega (arith, w (omega arith))))
      (λ z w. record { same = λ s rows b. refl })
      (λ z w. record { same = λ s rows b. refl })
      (λ z w. record { same = λ s rows b. refl })
      (λ z w. record { same = λ s rows b. refl })
      (λ z w. record { same = λ s rows b. refl })
      (λ z w. record { same = λ s rows b. refl })
      (λ z w. record { same = λ s rows b. refl })
      (λ z w. record { same = λ s rows b. refl })
      (λ z w. record { same = λ s rows b. refl })
      (λ z w. record { same = λ s rows b. refl })
      (λ z w. record { same = λ s rows b. refl })
      (λ n h z w. record { same = λ s rows b. refl })
