-- Document 01's number of each answer of the writer.
use Rattle.std.specs.Prelude.{ℕ, ◌≡◌, refl, Bool, true, false, cond, List, leb, length}
use Rattle.file.specs.Answers.{writes, write_number}

-- 30 for a table that the reader would never return, then 14 for a buffer shorter than the file; 0 for a file
abbrev pub number_written : Bool → List ℕ → List ℕ → ℕ
number_written sound file buffer = cond sound (cond (leb (length file) (length buffer)) 0 14) 30

pub write-numbered : (sound : Bool) (file buffer : List ℕ) → write_number (writes sound file buffer) ≡ number_written sound file buffer
write-numbered false file buffer = refl
write-numbered true file buffer = by-room (leb (length file) (length buffer)) refl
  where
    by-room : (b : Bool) → leb (length file) (length buffer) ≡ b → write_number (writes true file buffer) ≡ number_written true file buffer
    by-room true e = rw e refl
    by-room false e = rw e refl
