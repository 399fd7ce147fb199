-- A codec: how a value is written and how it is read. It is lawful where each undoes the other.
-- The other files make codecs of codecs, so that a record's description is both its writer and its reader; proofs/ shows that each is lawful where its parts are.
use Rattle.std.specs.Prelude.{◌≡◌, List, ◌++◌, Bool, true, ℕ, ◌≤◌, ◌<◌, length, get_or}
use Rattle.codec.specs.Readings.{Reading, got, no}

-- every element is a byte
pub record Bytes (bs : List ℕ) : Type 0 where
  pub below : (i : ℕ) → get_or bs i 0 < 256

-- how values of a kind are written and read
pub record Codec (A : Type 0) : Type 0 where
  pub put : A → List ℕ  -- the bytes of a value
  pub get : List ℕ → Reading A  -- what stands at the front of some bytes
  pub ok : A → Bool  -- whether a value can stand in a file

-- a codec's laws: writing and reading undo each other
pub record Lawful {A : Type 0} (c : Codec A) : Type 0 where
  pub there : (a : A) (r : List ℕ) → c.ok a ≡ true → c.get (c.put a ++ r) ≡ got a r  -- reading undoes writing
  pub whole : (a : A) → c.ok a ≡ true → Bytes (c.put a)  -- what is written is bytes
  pub back : (bs : List ℕ) (a : A) (r : List ℕ) → Bytes bs → c.get bs ≡ got a r → (bs ≡ c.put a ++ r) × (c.ok a ≡ true)  -- writing undoes reading

-- no value that can stand in a file takes more than n bytes, and reading refuses with no other numbers than those of P
pub record Bounded {A : Type 0} (P : ℕ → Type 0) (n : ℕ) (c : Codec A) : Type 0 where
  pub room : (a : A) → c.ok a ≡ true → length (c.put a) ≤ n
  pub number : (bs : List ℕ) (e : ℕ) → c.get bs ≡ no e → P e
