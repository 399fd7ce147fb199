-- Reading, writing and soundness, said of tables of plain arrays: both round trips, one table to a meaning, and which tables are sound.
use Rattle.std.specs.Prelude.{◌≡◌, refl, Bool, true, false, List, ℕ}
use Rattle.std.proofs.Common.{sym, ap, ap₂, ◌∙◌, arith}
use Rattle.codec.specs.Codecs.{Bytes}
use Rattle.file.specs.Tables.{Table}
use Rattle.file.specs.Files.{read, decode, encode, sound}
use Rattle.file.specs.Answers.{writes, written}
use Rattle.file.proofs.RoundTrips.{decode-encode, encode-decode}
use Rattle.file.proofs.Returned.{table-once}
use Rattle.file.specs.declared.ReadAnswer.TheVariants.{Read}
use Rattle.tables.specs.declared.Table.{Table as Plain}
use Rattle.layout.specs.Plain.{struct_of}
use Rattle.reading.specs.Readings.{reading_of}
use Rattle.ecode.specs.Sound.{bytes_of, sound_in, Holds, sound-holds, holds-file, holds-sound}

-- ---- round trips

-- reading what was written gives the same table
pub read-written : (t : Plain) → sound_in t ≡ true → reading_of (decode (bytes_of t)) ≡ record { answer = Read; table = t }
read-written t good =
    let h = sound-holds t good in
    ap (λ (l : List ℕ). reading_of (decode l)) (holds-file t h) ∙ ap reading_of (decode-encode h.table h.good)
    ∙ ap (λ (x : Plain). record { answer = Read; table = x }) h.is

-- what the reader returns is sound, and writing it gives the same bytes
pub write_read : (bs : List ℕ) (u : Table) → Bytes bs → decode bs ≡ read u → (sound_in (struct_of u) ≡ true) × (bytes_of (struct_of u) ≡ bs)
write_read bs u whole e =
    let (same, good) = encode-decode bs u whole e in
    let h : Holds (struct_of u) = record { table = u; good = good; is = refl } in
    (holds-sound (struct_of u) h, holds-file (struct_of u) h ∙ same)

-- ---- one table to a meaning

-- the table of the file that a table of plain arrays holds is one
pub held-once : (t : Plain) (h g : Holds t) → h.table ≡ g.table
held-once t h g = table-once h.table g.table h.good g.good (sym (holds-file t h) ∙ holds-file t g)

-- tables of plain arrays that hold the same are the same, the unused parts of their arrays too
pub holder-once : (t u : Plain) (h : Holds t) (g : Holds u) → h.table ≡ g.table → t ≡ u
holder-once t u h g e = sym h.is ∙ ap struct_of e ∙ g.is

-- ---- the file that is written

-- a sound table's bytes are its file
pub sound-file : (t : Plain) → sound_in t ≡ true → (u : Table) → sound u ≡ true → struct_of u ≡ t → bytes_of t ≡ encode u
sound-file t good u fine is = holds-file t (record { table = u; good = fine; is = is })

-- after a success the file stands in front and every byte behind it is as before
pub write-sound : (t : Plain) (h : Holds t) (buffer : List ℕ)
    → (writes (sound_in t) (bytes_of t) buffer ≡ writes true (encode h.table) buffer) × (written (sound_in t) (bytes_of t) buffer ≡ written true (encode h.table) buffer)
write-sound t h buffer =
    let s = holds-sound t h in
    let f = holds-file t h in
    (ap₂ (λ (b : Bool) (l : List ℕ). writes b l buffer) s f, ap₂ (λ (b : Bool) (l : List ℕ). written b l buffer) s f)

-- ---- which tables are sound

-- an answer that tells the tables that the reader can return from all others
pub record Tells (t : Plain) (answer : Bool) : Type 0 where
  pub yes : answer ≡ true → Holds t
  pub no : answer ≡ false → Holds t → ⊥

pub sound-tells : (t : Plain) → Tells t (sound_in t)
sound-tells t =
    record { yes = sound-holds t; no = λ e h. let s = holds-sound t h in let z : ◌≡◌ {A = ℕ} 0 1 = cc in omega arith }

pub sound-once : (t : Plain) (answer : Bool) → Tells t answer → answer ≡ sound_in t
sound-once t true tells = sym (holds-sound t (tells.yes refl))
sound-once t false tells = go (sound_in t) refl
  where
    go : (b : Bool) → sound_in t ≡ b → false ≡ sound_in t
    go true e = absurd (tells.no refl (sound-holds t e))
    go false e = sym e
