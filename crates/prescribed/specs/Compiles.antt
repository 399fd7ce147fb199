-- What the compiler answers for a text and a buffer of a length (document 01, 'When the compiler says no').
use Rattle.std.specs.Prelude.{ℕ, cond, List, length, ltb, Ok, Err}
use Rattle.std.proofs.Math.Option.{Option, none, some}
use Rattle.model.specs.Rooms.{text_room, code_room}
use Rattle.model.specs.Modules.{Module}
use Rattle.text.specs.Items.{Refusal, syntax_of}
use Rattle.refusals.specs.Verdicts.{Verdict}
use Rattle.refusals.specs.Texts.{verdict_of, module_of}
use Rattle.timing.specs.Code.{code_of}
use Rattle.file.specs.Files.{encode}
use Rattle.prescribed.specs.Tables.{table_of}

-- The one file, or a refusal's number and byte offset.
pub data Compiling : Type 0 where
  file : List ℕ → Compiling
  refused : ℕ → ℕ → Compiling

-- The file of a module.
unfoldable pub file_of : Module → List ℕ
file_of M = encode (table_of M)

-- 14 output buffer shorter than the file: last of all, at the text length
abbrev pub in_room : ℕ → ℕ → List ℕ → Compiling
in_room end room bytes = cond (ltb room (length bytes)) (refused 14 end) (file bytes)

-- 13 code over 4,096, at the text length
abbrev pub of_module : ℕ → ℕ → Module → Compiling
of_module end room M =
    let written = in_room end room (file_of M) in
    cond (ltb code_room (length (code_of M))) (refused 13 end) written

-- the leftmost of 4 to 12
abbrev pub by_verdict : List ℕ → ℕ → Verdict → Compiling
by_verdict text room (Err r) = refused r.number r.at
by_verdict text room (Ok fine) = of_module (length text) room (module_of text)

-- the leftmost 2 or 3; only in a text free of these the others
abbrev pub by_syntax : List ℕ → ℕ → Option Refusal → Compiling
by_syntax text room (some refusal) = refused refusal.number refusal.offset
by_syntax text room none = by_verdict text room (verdict_of text)

-- First 1: text too long, at 0.
unfoldable pub compile_of : List ℕ → ℕ → Compiling
compile_of text room =
    let read = by_syntax text room (syntax_of text) in
    cond (ltb text_room (length text)) (refused 1 0) read
