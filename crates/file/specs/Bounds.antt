-- The bounds of a file: its length, and the numbers that reading it refuses with.
use Rattle.std.specs.Prelude.{ℕ, ◌≤◌}

-- a number from low to high
pub record Between (low high n : ℕ) : Type 0 where
  pub least : low ≤ n
  pub most : n ≤ high

-- no file of a table that the reader can return is longer
abbrev pub file_room : ℕ
file_room = 71364
