-- What the reader returns: the answer, and beside it the table, or a blank one.
use Rattle.std.specs.Prelude.{ℕ, ◌≡◌, Result, Ok, Err}
use Rattle.std.proofs.Common.{ap, ◌∙◌}
use Rattle.layout.specs.Plain.{struct_of, blank}
use Rattle.file.specs.Files.{Answer, read, refused}
use Rattle.file.specs.Answers.{answer_of, read_number}
use Rattle.file.specs.declared.Refused.{Refused}
use Rattle.file.specs.declared.ReadAnswer.TheVariants as answers
use Rattle.reading.specs.declared.Reading.{Reading}
use Rattle.tables.specs.declared.Table.{Table as Plain}

-- the table, or the number of the refusal
abbrev pub result_of : Answer → Result Plain Refused
result_of (read t) = Ok (struct_of t)
result_of (refused n) = Err (record { number = n })

-- the table, or beside a refusal a blank one
abbrev pub table_in : Answer → Plain
table_in (read t) = struct_of t
table_in (refused n) = blank

-- the answer and its table
abbrev pub reading_of : Answer → Reading
reading_of a = record { answer = answer_of a; table = table_in a }

-- document 01's number: 0 for a table, or the refusal's, 20 to 24
abbrev pub number_read : Answer → ℕ
number_read (read t) = 0
number_read (refused number) = number

pub read-numbered : (a : Answer) {r : Reading} → r ≡ reading_of a → (r ≡ reading_of a) × (read_number r.answer ≡ number_read a)
read-numbered (read t) e = (e, ap (λ (r : Reading). read_number r.answer) e)
read-numbered (refused number) e = (e, ap (λ (r : Reading). read_number r.answer) e)

pub read-table : (a : Answer) {t : Plain} → Ok t ≡ result_of a → ◌≡◌ {A = Reading} (record { answer = answers.Read; table = t }) (reading_of a)
read-table (read u) {t} e = let p : t ≡ struct_of u = cc in ap (λ (x : Plain). record { answer = answers.Read; table = x }) p
read-table (refused n) e = absurd cc

pub read-refused : (a : Answer) {e : Refused} {l : Plain} → l ≡ blank → Err e ≡ result_of a → ◌≡◌ {A = Reading} (record { answer = answers.Refused e.number; table = l }) (reading_of a)
read-refused (read u) b q = absurd cc
read-refused (refused n) {e} {l} b q =
    let p : e ≡ record { number = n } = cc in
    ap (λ (x : Refused). record { answer = answers.Refused x.number; table = l }) p ∙ ap (λ (x : Plain). record { answer = answers.Refused n; table = x }) b
