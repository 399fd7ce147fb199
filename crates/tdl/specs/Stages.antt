-- The compiler's answer, stage by stage: what refuses a text, in document 01's order.
use Rattle.std.specs.Prelude.{ℕ, ◌+◌, ◌≤◌, ◌<◌, ◌≡◌, List, [], ◌∷◌, length, Result, Ok, Err}
use Rattle.std.proofs.Math.Path.{refl}
use Rattle.std.proofs.Common.{sym, ap, ◌∙◌}
use borrow.Author.Tests.{lt-ltb, le-ltb}
use Rattle.model.specs.Rooms.{text_room, code_room}
use Rattle.text.specs.Items.{refuse, items_of, syntax_of}
use Rattle.refusals.specs.Verdicts.{Verdict, Fine, No}
use Rattle.refusals.specs.Texts.{declared_by, verdict_of, module_of}
use Rattle.names.specs.Tables.{rows_in}
use Rattle.names.specs.Index.{Indexed, empty_table, declared_in, entered_in, table_in}
use Rattle.names.specs.Declaring.{declared-length, empty-indexed, empty-long}
use Rattle.refusals.specs.declared.Row.{Row}
use Rattle.noting.specs.Filled.{table-indexed}
use Rattle.text.specs.declared.Refusal.{Refusal}
use Rattle.rules.specs.Going.{all_names, tabled_by, Judges}
use Rattle.timing.specs.Code.{code_of}
use Rattle.prescribed.specs.Compiled.{Compiled}
use Rattle.prescribed.specs.Acceptance.{Readable}
use Rattle.prescribed.proofs.Acceptance.{free}
use Rattle.prescribed.specs.Compiles.{Compiling, refused, file_of, in_room, compile_of}
use Rattle.prescribed.specs.Answers.{answered, buffered}
use Rattle.tdl.specs.Numbers.{numbers_in, numbers_of, numbered}

-- the right answer for a text and a buffer, and what the buffer then holds
pub record Compiles (text before : List ℕ) (answer : Compiled) (after : List ℕ) : Type 0 where
  pub tells : answer ≡ answered (compile_of text (length before))
  pub leaves : after ≡ buffered before (compile_of text (length before))
  pub numbers : numbers_in answer ≡ numbers_of (compile_of text (length before))

pub answers : {text before after : List ℕ} {answer : Compiled} → answer ≡ answered (compile_of text (length before)) → after ≡ buffered before (compile_of text (length before)) → Compiles text before answer after
answers {text} {before} tells leaves = record { tells = tells; leaves = leaves; numbers = ap numbers_in tells ∙ numbered (compile_of text (length before)) }

-- a text that breaks no rule, its names in rows, and their index
pub record Unbroken (text names : List ℕ) (rows : ℕ) : Type 0 where
  pub readable : Readable text
  pub verdict : verdict_of text ≡ Fine
  pub declared : rows_in names rows ≡ declared_by text (items_of text)
  pub indexed : Indexed text names

-- the table of names that judging leaves has its index
pub names-indexed : {s : List ℕ} {r : Result ℕ Refusal} {cells : List ℕ} → Judges s r cells → Indexed s cells
names-indexed {s} j = rw j.table (by (verdict_of s))
  where
    by : (v : Verdict) → Indexed s (tabled_by s v (all_names s))
    by (Ok fine) = table-indexed s (all_names s)
    by (Err r) = empty-indexed s

-- and its length
entered-long : (s : List ℕ) (rows : List Row) (cells : List ℕ) (k : ℕ) → length (entered_in s cells k rows) ≡ length cells
unfolding entered_in
entered-long s [] cells k = refl
entered-long s (row ∷ rows) cells k = entered-long s rows (declared_in s cells k row) (k + 1) ∙ declared-length {s = s} {cells = cells} {n = k} {row = row} (record { array = refl; rows = refl })

pub names-long : {s : List ℕ} {r : Result ℕ Refusal} {cells : List ℕ} → Judges s r cells → length cells ≡ 4672
unfolding table_in
names-long {s} j = rw j.table (by (verdict_of s))
  where
    by : (v : Verdict) → length (tabled_by s v (all_names s)) ≡ 4672
    by (Ok fine) = entered-long s (all_names s) empty_table 0 ∙ empty-long
    by (Err r) = empty-long

pub compiles : {text before : List ℕ} {c : Compiling} → compile_of text (length before) ≡ c → Compiles text before (answered c) (buffered before c)
compiles {before = before} e = answers (ap answered (sym e)) (ap (buffered before) (sym e))

module _ (text : List ℕ) (room : ℕ) where
  pub long : text_room < length text → compile_of text room ≡ refused 1 0
  unfolding compile_of
  long h = rw (lt-ltb text_room (length text) h) refl

  pub unreadable : length text ≤ text_room → (number at : ℕ) → syntax_of text ≡ refuse number at → compile_of text room ≡ refused number at
  unfolding compile_of
  unreadable h number at e = rw (le-ltb text_room (length text) h, e) refl

  pub broken : Readable text → (number at : ℕ) → verdict_of text ≡ No number at → compile_of text room ≡ refused number at
  unfolding compile_of
  broken r number at e = rw (le-ltb text_room (length text) r.short, free r, e) refl

  pub overfull : Readable text → verdict_of text ≡ Fine → code_room < length (code_of (module_of text)) → compile_of text room ≡ refused 13 (length text)
  unfolding compile_of
  overfull r v h = rw (le-ltb text_room (length text) r.short, free r, v, lt-ltb code_room (length (code_of (module_of text))) h) refl

  pub in-room : Readable text → verdict_of text ≡ Fine → length (code_of (module_of text)) ≤ code_room → compile_of text room ≡ in_room (length text) room (file_of (module_of text))
  unfolding compile_of
  in-room r v h = rw (le-ltb text_room (length text) r.short, free r, v, le-ltb code_room (length (code_of (module_of text))) h) refl
