-- Laws of `every` and of sums, for loops that go up: `at` of n numbers are passed.
use Prim.Native.Nat.{ℕ, suc, ◌+◌, ◌-◌, ◌≤◌, ◌<◌}
use Rattle.std.proofs.Math.Nat.{sub-zero}
use native.Mathlib.Omega.{arith}
use Rattle.std.specs.Prelude.{◌≡◌, Bool, true, false, ◌||◌}
use Rattle.std.proofs.Math.Path.{refl}
use Rattle.std.proofs.Common.{ap}
use Rattle.referring.specs.Rows.{every_from, every, sum_from}

module _ (test : ℕ → Bool) (n at : ℕ) where
  -- what is left decides
  abbrev pub left : Bool
  left = every_from test at (n - at)

  pub left-on : at < n → test at ≡ true → every_from test (at + 1) (n - (at + 1)) ≡ left
  unfolding every_from
  left-on within passed =
      let count : suc (n - (at + 1)) ≡ n - at = omega arith in
      rw (← count, passed) refl

  pub left-fails : at < n → test at ≡ false → false ≡ left
  unfolding every_from
  left-fails within failed =
      let count : suc (n - (at + 1)) ≡ n - at = omega arith in
      rw (← count, failed) refl

  pub left-none : n ≤ at → true ≡ left
  unfolding every_from
  left-none past =
      let count : n - at ≡ 0 = omega arith in
      rw count refl

pub left-all : (test : ℕ → Bool) (n : ℕ) → left test n 0 ≡ every test n
left-all test n = ap (every_from test 0) (sub-zero n)

module _ (value : ℕ → ℕ) (n at : ℕ) where
  -- what is still to be added
  abbrev pub rest : ℕ
  rest = sum_from value at (n - at)

  pub rest-on : at < n → value at + sum_from value (at + 1) (n - (at + 1)) ≡ rest
  unfolding sum_from
  rest-on within =
      let count : suc (n - (at + 1)) ≡ n - at = omega arith in
      rw (← count) refl

  pub rest-none : n ≤ at → 0 ≡ rest
  unfolding sum_from
  rest-none past =
      let count : n - at ≡ 0 = omega arith in
      rw count refl

pub rest_all : (value : ℕ → ℕ) (n : ℕ) → rest value n 0 ≡ sum_from value 0 n
rest_all value n = ap (sum_from value 0) (sub-zero n)

pub or-false : (b : Bool) → (b || false) ≡ b
or-false true = refl
or-false false = refl
