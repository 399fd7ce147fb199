-- One byte, and a number of k bytes, the highest first. Where bytes are missing the refusal is 22.
use Rattle.std.specs.Prelude.{List, [], ◌∷◌, ℕ, zero, suc, ◌+◌, ◌*◌, ◌/◌, ◌%◌, ◌^◌, ltb}
use Rattle.codec.specs.Readings.{Reading, got, no, and_then}
use Rattle.codec.specs.Codecs.{Codec}

-- ---- one byte

-- a byte is read; 22 where none is left
unfoldable pub byte_get : List ℕ → Reading ℕ
byte_get [] = no 22
byte_get (b ∷ rest) = got b rest

-- one byte
unfoldable pub byte : Codec ℕ
byte = record { put = λ n. n ∷ []; get = byte_get; ok = λ n. ltb n 256 }

-- ---- a number of k bytes

-- a number's bytes, the highest first
abbrev pub be_put : ℕ → ℕ → List ℕ
be_put zero n = []
be_put (suc k) n = (n / 256 ^ k) ∷ be_put k (n % 256 ^ k)

-- a number is read from its bytes, the highest first
abbrev pub be_get : ℕ → List ℕ → Reading ℕ
be_get zero bs = got 0 bs
be_get (suc k) bs = and_then (byte_get bs) (λ high r. and_then (be_get k r) (λ low s. got (high * 256 ^ k + low) s))

-- a number of k bytes, the highest first
unfoldable pub be : ℕ → Codec ℕ
be k = record { put = be_put k; get = be_get k; ok = λ n. ltb n (256 ^ k) }
