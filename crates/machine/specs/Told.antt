-- What next task and finish tell: a task or none, and that the results are taken; or a refusal, by its number in document 01.
use Rattle.std.specs.Prelude.{ℕ, Option, Result, Err}
use Rattle.file.specs.declared.Refused.{Refused}

abbrev pub Turn : Type 0
Turn = Result (Option ℕ) Refused

abbrev pub Finishing : Type 0
Finishing = Result (Unit {0}) Refused

-- the refusal of a number
abbrev pub refuse : {A : Type 0} → ℕ → Result A Refused
refuse number = Err (record { number = number })
