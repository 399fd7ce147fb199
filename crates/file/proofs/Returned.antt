-- The tables that the reader returns are the sound ones, each from one file.
use Rattle.std.proofs.Math.Path.{◌≡◌, refl, ap}
use Rattle.std.proofs.Common.{sym, ◌∙◌, arith}
use Rattle.std.specs.Prelude.{List, Bool, ℕ, ◌^◌, ◌<◌, length}
use Rattle.std.proofs.Math.Bool.{true}
use Rattle.codec.specs.Codecs.{Bytes}
use Rattle.codec.proofs.Codecs.{bytes-both, and_left}
use Rattle.codec.proofs.Numbers.{be-ok, be-lawful, byte-whole}
use Rattle.file.specs.Tables.{Table}
use Rattle.file.specs.Files.{version_of, body, encode, Answer, read, refused, decode, sound}
use Rattle.file.specs.Returned.{Returned, ReturnedAs, read_back, sound_of}
use Rattle.file.proofs.Files.{table_by-lawful}
use Rattle.file.proofs.Bounds.{body-room}
use Rattle.file.proofs.RoundTrips.{decode-encode, encode-decode}

body-whole : (t : Table) → sound t ≡ true → Bytes (body t)
unfolding body sound version_of
body-whole t h = bytes-both (byte-whole 1 refl) ((table_by-lawful 1).whole t (and_left _ _ h))

-- the file of a sound table is a file of bytes
pub encode-whole : (t : Table) → sound t ≡ true → Bytes (encode t)
unfolding encode sound
encode-whole t h =
    let l : length (body t) < 256 ^ 4 = let p = body-room t (and_left _ _ h) in omega arith in
    bytes-both ((be-lawful 4).whole (length (body t)) (be-ok 4 _ l)) (body-whole t h)

pub sound-returned : (t : Table) → sound t ≡ true → Returned t
sound-returned t h = record { file = encode t; whole = encode-whole t h; reads = decode-encode t h }

pub returned-sound : (t : Table) → Returned t → sound t ≡ true
returned-sound t r = (encode-decode r.file t r.whole r.reads).1

-- ---- one file to a table, one table to a file

-- two files that read to the same table are the same
pub file-once : (b c : List ℕ) (t : Table) → Bytes b → Bytes c → decode b ≡ read t → decode c ≡ read t → b ≡ c
file-once b c t h g p q = sym (encode-decode b t h p).0 ∙ (encode-decode c t g q).0

-- two sound tables that are written alike are the same
pub table-once : (t u : Table) → sound t ≡ true → sound u ≡ true → encode t ≡ encode u → t ≡ u
table-once t u h g e =
    let p : read t ≡ read u = sym (decode-encode t h) ∙ ap decode e ∙ decode-encode u g in
    cc

-- ---- the same for a record that holds a table: it is one that the reader can return where, written and read back, it is the same

module _ {S : Type 0} (record_of : Table → S) (bytes_of : S → List ℕ) (alike : S → S → Bool)
    (alike-true : (x y : S) → alike x y ≡ true → x ≡ y) (alike_refl : (x : S) → alike x x ≡ true)
    (whole : (x : S) → Bytes (bytes_of x))
    (writes : (t : Table) → sound t ≡ true → bytes_of (record_of t) ≡ encode t) where
  pub sound_of-returned : (x : S) → sound_of record_of bytes_of alike x ≡ true → ReturnedAs record_of x
  unfolding sound_of
  sound_of-returned x h = go (decode (bytes_of x)) refl h
    where
      go : (a : Answer) → decode (bytes_of x) ≡ a → read_back record_of bytes_of alike x a ≡ true → ReturnedAs record_of x
      go (read t) e q = record { table = t; from = record { file = bytes_of x; whole = whole x; reads = e }; is = alike-true _ _ q }
      go (refused n) e q = absurd (let z : ◌≡◌ {A = ℕ} 0 1 = cc in omega arith)

  pub returned-sound_of : (x : S) → ReturnedAs record_of x → sound_of record_of bytes_of alike x ≡ true
  unfolding sound_of
  returned-sound_of x r =
      let t = r.table in
      let s = returned-sound t r.from in
      let w : bytes_of x ≡ encode t = ap bytes_of (sym r.is) ∙ writes t s in
      ap (read_back record_of bytes_of alike x) (ap decode w ∙ decode-encode t s) ∙ ap (λ (y : S). alike y x) r.is ∙ alike_refl x
