-- What the code's shift of 1, and what a word is with that bit and without it.
use Rattle.std.specs.Prelude.{ℕ, ◌+◌, ◌-◌, ◌*◌, ◌%◌, ◌^◌, ◌<◌, ◌≡◌, Bool, true, false, bit_and, bit_or, refl}
use Rattle.std.proofs.Common.{arith, ◌∙◌, lit<, ap}
use Rattle.std.proofs.lemmas.Nat.{and-not, and_comm}
use Rattle.std.proofs.lemmas.Nat.Bits.{and_pow}
use Rattle.std.specs.Int.{bit_at}
use Rattle.std.specs.Int.Bits.{or_add_and}
use borrow.Author.Tests.{lt-ltb}
use lib.Pow.{shl_exact}
use native.Mathlib.Nat.{one-mul}
use Rattle.machine.specs.Words.{has, joined, parted}
use Rattle.machine.specs.WordLaws.{has-bit, hasnt-bit, has_within, set-le, set-fits}

one_shifted : (task : ℕ) → task < 64 → (1 * 2 ^ task) % 2 ^ 64 ≡ 2 ^ task
one_shifted task within = shl_exact 1 task 64 (lit< tt) (omega arith) ∙ one-mul (2 ^ task)

module _ (word task : ℕ) (within : task < 64) where
  met : (bit : ℕ) → bit_at word task ≡ bit → bit_and word (2 ^ task) ≡ bit * 2 ^ task
  met bit is = and_pow word task ∙ ap (λ (n : ℕ). n * 2 ^ task) is

  pub joins : bit_or word ((1 * 2 ^ task) % 2 ^ 64) ≡ joined word task
  joins = ap (bit_or word) (one_shifted task within) ∙ go (has word task) refl
    where
      go : (there : Bool) → has word task ≡ there → bit_or word (2 ^ task) ≡ joined word task
      go true there = rw there (omega (arith, or_add_and word (2 ^ task), met 1 (has-bit word task there)))
      go false there = rw (there, lt-ltb task 64 within) (omega (arith, or_add_and word (2 ^ task), met 0 (hasnt-bit word task there)))

  pub parts : word < 2 ^ 64 → bit_and word (2 ^ 64 - 1 - (1 * 2 ^ task) % 2 ^ 64) ≡ parted word task
  parts fits = ap (λ (n : ℕ). bit_and word (2 ^ 64 - 1 - n)) (one_shifted task within) ∙ and_comm word _ ∙ go (has word task) refl
    where
      small : 2 ^ task < 2 ^ 64
      small = let below : 0 + 2 ^ task < 2 ^ 64 = set-fits 64 task 0 within (lit< tt) (omega arith) in omega arith

      go : (there : Bool) → has word task ≡ there → bit_and (2 ^ 64 - 1 - 2 ^ task) word ≡ parted word task
      go true there = rw there (omega (arith, and-not 64 (2 ^ task) word small fits, and_comm (2 ^ task) word, met 1 (has-bit word task there)))
      go false there = rw there (omega (arith, and-not 64 (2 ^ task) word small fits, and_comm (2 ^ task) word, met 0 (hasnt-bit word task there)))
