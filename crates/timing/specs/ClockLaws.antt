-- What the elapsed time is, of a clock of 32 bits that runs over: the one number below 2^32 that leads from one count to the other.
use Rattle.std.specs.Prelude.{ℕ, ◌+◌, ◌%◌, ◌^◌, ◌<◌, ◌≡◌}
use Rattle.std.proofs.Common.{arith}
use Rattle.model.specs.Clock.{elapsed}

-- From a count, d microseconds lead to another.
pub record Leading (from d to : ℕ) : Type 0 where
  pub small : d < 2 ^ 32
  pub reaches : (from + d) % 2 ^ 32 ≡ to

pub elapsed-leads : (from to : ℕ) → from < 2 ^ 32 → to < 2 ^ 32 → Leading from (elapsed from to) to
elapsed-leads from to a b = record { small = omega arith; reaches = omega arith }

pub elapsed-unique : (from to d : ℕ) → from < 2 ^ 32 → to < 2 ^ 32 → Leading from d to → d ≡ elapsed from to
elapsed-unique from to d a b l = omega arith

-- Counts by size say nothing: the same stretch of time, wherever it begins.
pub elapsed-shifts : (from d : ℕ) → from < 2 ^ 32 → d < 2 ^ 32 → elapsed from ((from + d) % 2 ^ 32) ≡ d
elapsed-shifts from d a b = omega arith

-- Only the difference matters: two counts moved on alike are as far apart.
pub elapsed-relative : (from to d : ℕ) → from < 2 ^ 32 → to < 2 ^ 32 → elapsed ((from + d) % 2 ^ 32) ((to + d) % 2 ^ 32) ≡ elapsed from to
elapsed-relative from to d a b = omega arith
