-- The answer of `judge` for each case of document 01's clock.
use Rattle.std.specs.Prelude.{◌≡◌, ℕ, refl}
use Rattle.std.proofs.Common.{arith}
use Rattle.model.specs.Clock as C
use Rattle.cells.specs.declared.Instant.{Instant}
use Rattle.cells.specs.declared.Instant.TheVariants.{Early, Due, Missed}

abbrev pub instant_of : C.Instant → Instant
instant_of (C.early left) = Early left
instant_of C.due = Due
instant_of C.missed = Missed

-- what the definition says where the answer is known
pub early-is : (instant : C.Instant) (left : ℕ) → instant_of instant ≡ Early left → instant ≡ C.early left
early-is (C.early then) left same = cc
early-is C.due left same = let z : ◌≡◌ {A = ℕ} 0 1 = cc in absurd (omega arith)
early-is C.missed left same = let z : ◌≡◌ {A = ℕ} 0 1 = cc in absurd (omega arith)

pub due-is : (instant : C.Instant) → instant_of instant ≡ Due → instant ≡ C.due
due-is (C.early then) same = let z : ◌≡◌ {A = ℕ} 0 1 = cc in absurd (omega arith)
due-is C.due same = refl
due-is C.missed same = let z : ◌≡◌ {A = ℕ} 0 1 = cc in absurd (omega arith)

pub missed-is : (instant : C.Instant) → instant_of instant ≡ Missed → instant ≡ C.missed
missed-is (C.early then) same = let z : ◌≡◌ {A = ℕ} 0 1 = cc in absurd (omega arith)
missed-is C.due same = let z : ◌≡◌ {A = ℕ} 0 1 = cc in absurd (omega arith)
missed-is C.missed same = refl
