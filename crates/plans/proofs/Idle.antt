-- The rows whose items leave the arrays of modes as they are: neither the end of a task nor an item of a mode.
use Prim.Native.Nat.{ℕ, ◌≤◌, ◌<◌}
use native.Mathlib.Omega.{arith}
use mathlib.Core.Path.{◌≡◌, refl}
use mathlib.Core.List.{List}
use lib.ListN.{get_or}
use Rattle.text.specs.declared.Item.{Item}
use Rattle.refusals.specs.declared.Row.{Row}
use Rattle.kept.specs.Rows.{fields_in, item_of}
use Rattle.kept.specs.Kinds.{each-kind}
use Rattle.sheets.specs.Sheets.{Sheet, planned}

abbrev Aside : ℕ → Type 0
Aside k = 8 ≤ k → 18 ≤ k

among : (k : ℕ) → 8 ≤ k → k < 18 → Aside k → ⊥
among k low high w = omega (arith, w low)

pub idle : (s : List ℕ) (all rows : List Row) (row : List ℕ) (h : Sheet) → Aside (get_or row 0 0) → h ≡ planned s all rows (item_of (fields_in row)) h
idle s all rows row h =
    each-kind row (λ (k : ℕ) (item : Item). Aside k → h ≡ planned s all rows item h)
    (λ w. refl)
    (λ w. refl)
    (λ w. refl)
    (λ w. refl)
    (λ w. refl)
    (λ w. refl)
    (λ w. refl)
    (λ w. refl)
    (λ w. absurd (among 8 (omega arith) (omega arith) w))
    (λ w. absurd (among 9 (omega arith) (omega arith) w))
    (λ w. absurd (among 10 (omega arith) (omega arith) w))
    (λ w. absurd (among 11 (omega arith) (omega arith) w))
    (λ w. absurd (among 12 (omega arith) (omega arith) w))
    (λ w. absurd (among 13 (omega arith) (omega arith) w))
    (λ w. absurd (among 14 (omega arith) (omega arith) w))
    (λ w. absurd (among 15 (omega arith) (omega arith) w))
    (λ w. absurd (among 16 (omega arith) (omega arith) w))
    (λ w. absurd (among 17 (omega arith) (omega arith) w))
    (λ w. refl)
    (λ w. refl)
    (λ k l w. refl)
