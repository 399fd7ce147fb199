-- The tables that the reader returns, and the records that hold one.
use Rattle.std.proofs.Math.Path.{◌≡◌}
use Rattle.std.specs.Prelude.{List, Bool, false, ℕ}
use Rattle.codec.specs.Codecs.{Bytes}
use Rattle.file.specs.Tables.{Table}
use Rattle.file.specs.Files.{Answer, read, refused, decode}

-- some file is read as this table
pub record Returned (t : Table) : Type 0 where
  pub file : List ℕ
  pub whole : Bytes file
  pub reads : decode file ≡ read t

-- ---- the same for a record that holds a table: it is one that the reader can return where, written and read back, it is the same

module _ {S : Type 0} (record_of : Table → S) where
  -- some file is read as this record
  pub record ReturnedAs (x : S) : Type 0 where
    pub table : Table
    pub from : Returned table
    pub is : record_of table ≡ x

  module _ (bytes_of : S → List ℕ) (alike : S → S → Bool) where
    abbrev pub read_back : S → Answer → Bool
    read_back x (read t) = alike (record_of t) x
    read_back x (refused e) = false

    -- write, read back, compare
    unfoldable pub sound_of : S → Bool
    sound_of x = read_back x (decode (bytes_of x))
