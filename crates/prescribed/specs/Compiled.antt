-- The answer of compile: the length of the file, or the number and the byte offset of a refusal.
use Rattle.std.specs.Prelude.{ℕ, Result, Ok, Err}
use Rattle.text.specs.declared.Refusal.{Refusal}

abbrev pub Compiled : Type 0
Compiled = Result ℕ Refusal

abbrev pub Written : ℕ → Compiled
Written length = Ok length

abbrev pub Refused : ℕ → ℕ → Compiled
Refused number at = Err (record { number = number; at = at })
