-- What reading and writing a file answer (document 01, 'The file'), with the numbers that the document gives.
use Rattle.std.specs.Prelude.{Result, Ok, Err, Bool, cond, ◌&&◌, List, ◌++◌, ℕ, leb, length, drop}
use Rattle.file.specs.Files.{Answer, read, refused}
use Rattle.file.specs.declared.ReadAnswer.{ReadAnswer}
use Rattle.file.specs.declared.ReadAnswer.TheVariants.{Read, Refused}
use Rattle.file.specs.declared.Refused.{Refused as Refusal}

-- ---- the reader

-- the answer beside the table: 20 to 24 where there is none
abbrev pub answer_of : Answer → ReadAnswer
answer_of (read t) = Read
answer_of (refused n) = Refused n

-- the document's number of each answer; 0 stands for a table
abbrev pub read_number : ReadAnswer → ℕ
read_number Read = 0
read_number (Refused n) = n

-- ---- the writer, of a table that is sound or not, its file, and the buffer that is lent

-- Writing a table alone is refused with 30, then 14.
abbrev pub writes : Bool → List ℕ → List ℕ → Result ℕ Refusal
writes sound file buffer = cond sound (cond (leb (length file) (length buffer)) (Ok (length file)) (Err (record { number = 14 }))) (Err (record { number = 30 }))

-- After a refusal the buffer is untouched; after a success, the bytes behind the file.
abbrev pub written : Bool → List ℕ → List ℕ → List ℕ
written sound file buffer = cond (sound && leb (length file) (length buffer)) (file ++ drop (length file) buffer) buffer

-- the document's number of each answer; 0 stands for a file
abbrev pub write_number : Result ℕ Refusal → ℕ
write_number (Ok n) = 0
write_number (Err r) = r.number
