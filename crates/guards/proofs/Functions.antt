-- A function's number past the first three names the last.
use Prim.Native.Nat.{ℕ, zero, suc}
use mathlib.Core.Path.{◌≡◌, refl}
use Rattle.model.specs.Values.{function_by}
use Rattle.model.specs.declared.Function.TheVariants.{Equal}

pub equal_by : (number : ℕ) → (number ≡ 0 → ⊥) → (number ≡ 1 → ⊥) → (number ≡ 2 → ⊥) → function_by number ≡ Equal
equal_by zero a b d = absurd (a refl)
equal_by (suc zero) a b d = absurd (b refl)
equal_by (suc (suc zero)) a b d = absurd (d refl)
equal_by (suc (suc (suc zero))) a b d = refl
equal_by (suc (suc (suc (suc number)))) a b d = refl
