-- Laws of ticks one after the other, for their loop: `k` of `times` are passed.
use Rattle.std.specs.Prelude.{◌≡◌, ℕ, suc, ◌+◌, ◌-◌, ◌<◌, ◌≤◌, List, refl}
use native.Mathlib.Omega.{arith}
use Rattle.std.proofs.Math.Path.{ap}
use Rattle.emachine.specs.declared.Machine.{Machine}
use Rattle.native.specs.Copies.{ticked_by, ticks_from}

module _ (later : ℕ) (types words : List ℕ) (times k : ℕ) (m : Machine) where
  pub ticks-on : k < times → ticks_from later types words (times - (k + 1)) (ticked_by later types words m) ≡ ticks_from later types words (times - k) m
  unfolding ticks_from
  ticks-on within =
      let count : suc (times - (k + 1)) ≡ times - k = omega arith in
      ap (λ (n : ℕ). ticks_from later types words n m) count

  pub ticks-over : times ≤ k → ticks_from later types words (times - k) m ≡ m
  unfolding ticks_from
  ticks-over past =
      let count : times - k ≡ 0 = omega arith in
      ap (λ (n : ℕ). ticks_from later types words n m) count
