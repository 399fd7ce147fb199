-- No other refusal exists (document 01, 'When the compiler says no'): each is one of 1 to 14, at a byte of the text or at its end.
use Rattle.std.specs.Prelude.{ℕ, ◌≤◌, List, length}

-- a number and a place that a refusal may have
pub record Listed (text : List ℕ) (number at : ℕ) : Type 0 where
  pub least : 1 ≤ number
  pub most : number ≤ 14
  pub inside : at ≤ length text
