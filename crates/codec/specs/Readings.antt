-- What reading a part of a file comes to.
use Rattle.std.specs.Prelude.{List, ℕ}
use Rattle.std.proofs.Math.Option.{Option, none, some}

-- a value and the bytes behind it, or the number of a refusal
pub data Reading (A : Type 0) : Type 0 where
  got : A → List ℕ → Reading A
  no : ℕ → Reading A

-- go on with what was got; a refusal stays
abbrev pub and_then : {A B : Type 0} → Reading A → (A → List ℕ → Reading B) → Reading B
and_then (got a rest) go = go a rest
and_then (no e) go = no e

-- what is there, or refusal e
abbrev pub or_no : {A : Type 0} → ℕ → Option A → List ℕ → Reading A
or_no e none rest = no e
or_no e (some a) rest = got a rest
