-- For the enum of the compiler's answers, document 01's number and values for each of its cases, and what the lent buffer then holds.
use Rattle.std.specs.Prelude.{ℕ, List, ◌++◌, length, drop}
use Rattle.prescribed.specs.Compiled.{Compiled}
use Rattle.prescribed.specs.Compiled.{Written, Refused}
use Rattle.prescribed.specs.Compiles.{Compiling, file, refused}

-- the answer
abbrev pub answered : Compiling → Compiled
answered (file bytes) = Written (length bytes)
answered (refused number at) = Refused number at

-- A refusal leaves the output buffer untouched; a success, the bytes behind the file.
abbrev pub buffered : List ℕ → Compiling → List ℕ
buffered buffer (file bytes) = bytes ++ drop (length bytes) buffer
buffered buffer (refused number at) = buffer
