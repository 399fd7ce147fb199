-- Whether a table of plain arrays is one that the reader can return, and what writing it does.
use Rattle.std.specs.Prelude.{Ok, Err, ◌≡◌, refl, Bool, true, false, List, ◌++◌, ℕ, ◌≤◌, ◌<◌, length, take, drop}
use Rattle.std.proofs.Common.{sym, ap, ◌∙◌, append_assoc, take-append-drop, length-take-le, le-leb, arith}
use Rattle.std.proofs.lemmas.List.{drop-append-le}
use Rattle.std.proofs.lemmas.Bool.{lt-leb}
use Rattle.file.specs.Tables.{Table}
use Rattle.file.specs.Files.{Answer, read, refused, decode, encode, sound}
use Rattle.file.specs.Answers.{writes, written}
use Rattle.file.proofs.RoundTrips.{decode-encode}
use Rattle.file.proofs.Returned.{returned-sound}
use Rattle.file.specs.declared.ReadAnswer.TheVariants.{Read, Refused}
use Rattle.tables.specs.declared.Table.{Table as Plain}
use Rattle.layout.specs.Plain.{struct_of}
use Rattle.comparing.specs.Alike.{alike, alike-true, alike_refl}
use Rattle.filing.specs.Whole.{file_of, Filed}
use Rattle.encoding.specs.ByteLaws.{file-whole}
use Rattle.encoding.specs.Whole.{file-is}
use Rattle.reading.specs.declared.Reading.{Reading}
use Rattle.reading.specs.Readings.{reading_of}
use Rattle.ecode.specs.Filed.{file-length, filed-front}

-- the bytes that are written for a table: those of its file, as far as the longest file goes
abbrev pub bytes_of : Plain → List ℕ
bytes_of t = file_of 71364 t

-- a table that the reader can return: it holds a sound table of the file
pub record Holds (t : Plain) : Type 0 where
  pub table : Table
  pub good : sound table ≡ true
  pub is : struct_of table ≡ t

-- what was written is read back as the same
unfoldable pub back_in : Plain → Answer → Bool
back_in t (read u) = alike (struct_of u) t
back_in t (refused number) = false

-- write, read back, compare
unfoldable pub sound_in : Plain → Bool
sound_in t = back_in t (decode (bytes_of t))

-- ---- laws

-- what the reader answers, compared
pub back_read : (t : Plain) (a : Answer) (r : Reading) → r ≡ reading_of a → r.answer ≡ Read → alike r.table t ≡ back_in t a
unfolding back_in
back_read t (read u) r e p = ap (λ (x : Reading). alike x.table t) e
back_read t (refused number) r e p = absurd (let z : ◌≡◌ {A = ℕ} 0 1 = cc (ap (λ (x : Reading). x.answer) e) in omega arith)

pub back-refused : (t : Plain) (a : Answer) (r : Reading) (number : ℕ) → r ≡ reading_of a → r.answer ≡ Refused number → false ≡ back_in t a
unfolding back_in
back-refused t (read u) r number e p = absurd (let z : ◌≡◌ {A = ℕ} 0 1 = cc (ap (λ (x : Reading). x.answer) e) in omega arith)
back-refused t (refused other) r number e p = refl

-- the table is sound exactly if the reader can return it
pub sound-holds : (t : Plain) → sound_in t ≡ true → Holds t
unfolding sound_in back_in
sound-holds t h = go (decode (bytes_of t)) refl h
  where
    go : (a : Answer) → decode (bytes_of t) ≡ a → back_in t a ≡ true → Holds t
    go (read u) e q =
        record { table = u; good = returned-sound u (record { file = bytes_of t; whole = file-whole 71364 t; reads = e }); is = alike-true (struct_of u) t q }
    go (refused n) e q = absurd (let z : ◌≡◌ {A = ℕ} 0 1 = cc in omega arith)

-- what is written for it is its file
pub holds-file : (t : Plain) (h : Holds t) → bytes_of t ≡ encode h.table
holds-file t h = ap bytes_of (sym h.is) ∙ file-is h.table h.good

pub holds-sound : (t : Plain) → Holds t → sound_in t ≡ true
unfolding sound_in back_in
holds-sound t h =
    let u = h.table in
    ap (back_in t) (ap decode (holds-file t h) ∙ decode-encode u h.good) ∙ ap (λ (x : Plain). alike x t) h.is ∙ alike_refl t

-- ---- what writing answers, case by case

module _ (good : Bool) (file buffer : List ℕ) where
  pub unsound-refused : good ≡ false → (Err (record { number = 30 }) ≡ writes good file buffer) × (buffer ≡ written good file buffer)
  unsound-refused e = rw e (refl, refl)

  pub short-refused : good ≡ true → length buffer < length file → (Err (record { number = 14 }) ≡ writes good file buffer) × (buffer ≡ written good file buffer)
  short-refused e h = let l = lt-leb (length file) (length buffer) h in rw (e, l) (refl, refl)

  pub wrote : good ≡ true → length file ≤ length buffer → (Ok (length file) ≡ writes good file buffer) × (file ++ drop (length file) buffer ≡ written good file buffer)
  wrote e h = let l = le-leb (length file) (length buffer) h in rw (e, l) (refl, refl)

-- a file that was put together in the front of a buffer with room for the longest
pub in-front : (buffer : List ℕ) {after : List ℕ} {t : Plain} {next : ℕ} → 71364 ≤ length buffer → Filed (take 71364 buffer) t after next
    → (Ok next ≡ writes true (bytes_of t) buffer) × (after ++ drop 71364 buffer ≡ written true (bytes_of t) buffer)
in-front buffer {after} {t} {next} h filed =
    let before = take 71364 buffer in
    let size : length before ≡ 71364 = length-take-le 71364 buffer h in
    let g = filed.goes in
    let few : next ≤ 71364 = omega arith in
    let file = ap (λ (n : ℕ). file_of n t) size in
    let long : length (bytes_of t) ≡ next = ap length (sym file) ∙ file-length before t after next filed (omega arith) (omega arith) in
    let w = wrote true (bytes_of t) buffer refl (omega arith) in (
      ap Ok (sym long) ∙ w.0,
      ap (λ (l : List ℕ). l ++ drop 71364 buffer) (filed-front before t after next filed (omega arith) (omega arith) ∙ ap (λ (l : List ℕ). l ++ drop next before) file)
          ∙ append_assoc (bytes_of t) (drop next before) (drop 71364 buffer)
          ∙ ap (λ (l : List ℕ). bytes_of t ++ l) (sym (drop-append-le next before (drop 71364 buffer) (omega arith)) ∙ ap (drop next) (take-append-drop 71364 buffer))
          ∙ ap (λ (n : ℕ). bytes_of t ++ drop n buffer) (sym long)
          ∙ w.1,
    )
