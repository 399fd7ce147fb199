-- The clock, and values handed in from outside (document 01, 'The machine').
use Rattle.std.specs.Prelude.{ℕ, ◌+◌, ◌-◌, ◌%◌, ◌^◌, Bool, true, false, cond, ◌&&◌, List, [], ◌∷◌, eqb, ltb}
use Rattle.model.specs.Values.{fits_type}

-- The time between two counts of a clock of 32 bits that runs over.
abbrev pub elapsed : ℕ → ℕ → ℕ
elapsed from to = (to + (2 ^ 32 - from)) % 2 ^ 32

-- A count is less than, equal to or more than what remains: idle, with what then remains; due; missed.
pub data Instant : Type 0 where
  early : ℕ → Instant
  due : Instant
  missed : Instant

-- idle, due or missed: elapsed time against what remains
abbrev pub judged : ℕ → ℕ → Instant
judged gone remaining = cond (ltb gone remaining) (early (remaining - gone)) (cond (eqb gone remaining) due missed)

-- Values handed in are right in number and type: as many types and words as are wanted, each of the type wanted (32 and 35).
unfoldable pub fits : List ℕ → List ℕ → List ℕ → Bool
fits [] [] [] = true
fits [] [] (word ∷ words) = false
fits [] (type ∷ types) words = false
fits (wanted ∷ others) [] words = false
fits (wanted ∷ others) (type ∷ types) [] = false
fits (wanted ∷ others) (type ∷ types) (word ∷ words) = (eqb type wanted && fits_type type word) && fits others types words
