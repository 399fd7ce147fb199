-- Document 01's number, byte offset and length for each of the compiler's answers.
use Rattle.std.specs.Prelude.{ℕ, ◌≡◌, refl, length, Ok, Err}
use Rattle.prescribed.specs.Compiled.{Compiled}
use Rattle.prescribed.specs.Compiles.{Compiling, file, refused}
use Rattle.prescribed.specs.Answers.{answered}

-- a refusal's number, 1 to 14, and its byte offset; 0 and 0 beside a file's length
pub record Numbers : Type 0 where
  pub number : ℕ
  pub offset : ℕ
  pub size : ℕ

-- of an answer
abbrev pub numbers_in : Compiled → Numbers
numbers_in (Ok size) = record { number = 0; offset = 0; size = size }
numbers_in (Err r) = record { number = r.number; offset = r.at; size = 0 }

-- of what document 01 prescribes
abbrev pub numbers_of : Compiling → Numbers
numbers_of (file bytes) = record { number = 0; offset = 0; size = length bytes }
numbers_of (refused number at) = record { number = number; offset = at; size = 0 }

pub numbered : (c : Compiling) → numbers_in (answered c) ≡ numbers_of c
numbered (file bytes) = refl
numbered (refused number at) = refl
