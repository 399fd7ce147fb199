-- Reading and writing a file answer with document 01's numbers ('The file') and with no others.
use Rattle.std.specs.Prelude.{Result, Ok, Err, ◌≡◌, refl, Bool, true, false, cond, List, ◌⊎◌, ℕ, leb, length}
use Rattle.std.proofs.Common.{inl, inr}
use Rattle.file.specs.declared.ReadAnswer.TheVariants.{Read}
use Rattle.file.specs.declared.Refused.{Refused as Refusal}
use Rattle.file.specs.Files.{Answer, read, refused, decode}
use Rattle.file.specs.Bounds.{Between}
use Rattle.file.specs.Answers.{answer_of, read_number, writes, write_number}
use Rattle.file.proofs.Bounds.{decode-refuses}

-- The reader returns a table, or one of 20 to 24.
pub read-numbers : (bs : List ℕ) → (answer_of (decode bs) ≡ Read) ⊎ Between 20 24 (read_number (answer_of (decode bs)))
read-numbers bs = go (decode bs) refl
  where
    go : (a : Answer) → decode bs ≡ a → (answer_of a ≡ Read) ⊎ Between 20 24 (read_number (answer_of a))
    go (read t) e = inl refl
    go (refused n) e = inr (decode-refuses bs n e)

-- what the writer may answer for a file: its length, 30 or 14
abbrev WriteNumbers : List ℕ → Result ℕ Refusal → Type 0
WriteNumbers file answer = (answer ≡ Ok (length file)) ⊎ ((write_number answer ≡ 30) ⊎ (write_number answer ≡ 14))

-- The writer answers with the length of the file, 30 or 14.
pub write-numbers : (sound : Bool) (file buffer : List ℕ) →
    (writes sound file buffer ≡ Ok (length file)) ⊎ ((write_number (writes sound file buffer) ≡ 30) ⊎ (write_number (writes sound file buffer) ≡ 14))
write-numbers false file buffer = inr (inl refl)
write-numbers true file buffer = go (leb (length file) (length buffer))
  where
    go : (fits : Bool) → WriteNumbers file (cond fits (Ok (length file)) (Err (record { number = 14 })))
    go true = inl refl
    go false = inr (inr refl)
