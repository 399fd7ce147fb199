-- Refusals 4 to 12 by cases: texts as they are written, with the mark # where the refusal stands.
use Rattle.std.specs.Prelude.{ℕ, List, [], ◌∷◌, Bool, true, false, cond, ◌&&◌, eqb, T, Ok, Err}
use Prim.Native.String.{String}
use Rattle.model.specs.Bytes.{bytes}
use Rattle.text.specs.declared.Item.{Item}
use Rattle.text.specs.Items.{refused_in}
use Rattle.text.specs.Cases.{mark_in, unmarked, free}
use Rattle.refusals.specs.Verdicts.{Verdict}
use Rattle.refusals.specs.Checks.{is_fine}
use Rattle.refusals.specs.Reading.{read_items, answer_by}

pub data Case : Type 0 where
  refused : ℕ → String → Case
  passes : String → Case

abbrev pub is_no : ℕ → ℕ → Verdict → Bool
is_no number at (Ok fine) = false
is_no number at (Err r) = eqb r.number number && eqb r.at at

-- free of 2 and 3, and of this answer
abbrev pub refused_by : ℕ → ℕ → List ℕ → List Item → Bool
refused_by number at s items = free (refused_in items) && is_no number at (answer_by s items)

abbrev pub passes_by : List ℕ → List Item → Bool
passes_by s items = free (refused_in items) && is_fine (answer_by s items)

-- a marked text is refused so at its mark
abbrev pub refused_so : ℕ → List ℕ → Bool
refused_so number marked =
    let s = unmarked marked in
    refused_by number (mark_in marked 0) s (read_items s)

abbrev pub right : Case → Bool
right (refused number text) = refused_so number (bytes text)
right (passes text) = passes_by (bytes text) (read_items (bytes text))

abbrev pub every : List Case → Bool
every [] = true
every (c ∷ cs) =
    let on = every cs in
    cond (right c) on false

-- one for each reading of document 01's words that two programs could take differently
unfoldable pub readings : List Case
readings =
    refused 12 "module M { /* // */ }#" ∷
    refused 6 "module M { sensor int s uses g; actuator int a := 0 uses f; start mode m [period=1us] { actuator [freq=1] a := #s.o; } }" ∷
    refused 6 "module M { actuator int a := 0 uses f; task t { output int o := 0; uses f; } start mode m [period=1us] { actuator [freq=1] a := #t; } }" ∷
    passes "module M { const a = - /**/ 5; start mode m [period=1us] { } }" ∷
    passes "module M { const const sensor actuator actuator start mode m [period=1us] { task task actuator mode mode } }" ∷
    refused 4 "module M { sensor #LLLLLLLLLLLLLLLLLLLLLLLLLLLLLLLLL s uses g; }" ∷
    refused 4 "module M { sensor int s uses #LLLLLLLLLLLLLLLLLLLLLLLLLLLLLLLLL; }" ∷
    refused 4 "module M { const a = #LLLLLLLLLLLLLLLLLLLLLLLLLLLLLLLLL; }" ∷
    refused 4 "module #LLLLLLLLLLLLLLLLLLLLLLLLLLLLLLLLL { }" ∷
    refused 4 "module M { start mode m [period=1us] { mode [freq=1] #LLLLLLLLLLLLLLLLLLLLLLLLLLLLLLLLL; } mode LLLLLLLLLLLLLLLLLLLLLLLLLLLLLLLLL [period=1us] { } }" ∷
    refused 5 "module M { task t { input int p; output int #p := 1; uses f; } }" ∷
    passes "module M { task t { input int t; output int o := 1; uses f; } start mode m [period=1us] { } }" ∷
    passes "module M { const M = 1; start mode m [period=1us] { } }" ∷
    refused 6 "module M { const a = #a; }" ∷
    refused 5 "module M { const a = 1; #a = a; }" ∷
    refused 6 "module M { sensor int x uses g; start mode m [period=1us] { mode [freq=1] #x; } mode x [period=1us] { } }" ∷
    refused 11 "module M { start mode a [period=1us] { mode [freq=1] i; } mode b [period=1us] { } mode c [period=1us] { } mode d [period=1us] { } mode e [period=1us] { } mode f [period=1us] { } mode g [period=1us] { } mode h [period=1us] { } mode #i [period=1us] { } }" ∷
    passes "module M { start mode m [period=1us] { mode [freq=1] m; } }" ∷
    passes "module int { const int = 1; sensor int boolean uses int; boolean less uses g; start mode m [period=1us] { mode [freq=1] if isTrue(less) then m; } }" ∷
    refused 6 "module M { const c = 1; sensor #c s uses g; }" ∷
    refused 6 "module M { actuator int a := 0 uses f; task t { input int i; uses f; } start mode m [period=1us] { actuator [freq=1] a := t.#i; } }" ∷
    refused 6 "module M { const c = 1; actuator int a := 0 uses f; start mode m [period=1us] { actuator [freq=1] a := #c; } }" ∷
    refused 6 "module M { sensor int s uses g; actuator int a := #s uses f; }" ∷
    refused 7 "module M { actuator int a := 0 uses f; task t { output boolean o := true; uses f; } start mode m [period=1us] { actuator [freq=1] a := #t.o; } }" ∷
    refused 7 "module M { sensor int s uses g; start mode m [period=1us] { mode [freq=1] if #less(s,s,s) then m; } }" ∷
    refused 7 "module M { start mode m [period=1us] { mode [freq=1] if #isTrue() then m; } }" ∷
    refused 7 "module M { sensor int s uses g; task u { uses f; } start mode m [period=1us] { task [freq=1] u(); [freq=1] #u(s); } }" ∷
    refused 7 "module M { actuator boolean a := #2147483648 uses f; }" ∷
    refused 7 "module M { actuator boolean a := #-2147483649 uses f; }" ∷
    refused 7 "module M { const i = 1; b = true; start mode m [period=1us] { mode [freq=1] if equal(i,#b) then m; } }" ∷
    passes "module M { const a = 0000000000000000000000000000000000000000000000000000001; start mode m [period=01us] { } }" ∷
    refused 8 "module M { const a = #18446744073709551617; }" ∷
    refused 8 "module M { start mode m [period=#4294967297us] { } }" ∷
    passes "module M { const a = -0; start mode m [period=1us] { } }" ∷
    refused 8 "module M { const a = -#2147483649; }" ∷
    passes "module M { start mode m [period=2147483ms] { } }" ∷
    refused 8 "module M { start mode m [period=#2147484ms] { } }" ∷
    refused 8 "module M { start mode m [period=#0us] { } }" ∷
    refused 8 "module M { task t { uses f; } start mode m [period=5us] { task [freq=#0] t(); } }" ∷
    refused 8 "module M { task t { uses f; } start mode m [period=5us] { task [freq=#65] t(); } }" ∷
    refused 9 "module M { task t { uses f; } start mode m [period=5us] { task [freq=#2] t(); } }" ∷
    refused 9 "module M { task t { uses f; } start mode m [period=4us] { task [freq=2] t(); mode [freq=#4] n; } mode n [period=4us] { } }" ∷
    passes "module M { task t { uses f; } start mode m [period=4us] { mode [freq=4] n; } mode n [period=4us] { task [freq=2] t(); } }" ∷
    refused 9 "module M { task t { uses f; } task u { uses f; } start mode m [period=4us] { task [freq=4] t(); [freq=2] u(); mode [freq=#4] m; } }" ∷
    refused 10 "module M { task t { uses f; } start mode m [period=1us] { task [freq=1] t(); task [freq=1] #t(); } }" ∷
    passes "module M { start mode m [period=1us] { mode [freq=1] m; [freq=1] m; } }" ∷
    refused 12 "module M { start mode m [period=1us] { } #start mode m [period=1us] { } }" ∷
    refused 12 "module M { }#" ∷
    passes "module M { const g = 1; sensor int s uses g; int t uses g; start mode m [period=1us] { } }" ∷
    refused 6 "module M { sensor #float s uses g; }" ∷
    refused 6 "module M { sensor #Int s uses g; }" ∷
    refused 11 "module M { task t { input int a; int b; int c; int d; int e; int f; int g; int h; int #i; uses f; } }" ∷
    []

-- document 01's bench cases 3, 4, 6 and 7
unfoldable pub bench : List Case
bench =
    refused 8 "module M { const a = #2147483648; }" ∷
    passes "module M { const a = -2147483648; start mode m [period=5ms] { } }" ∷
    passes "module M { const a = 2147483647; start mode m [period=5ms] { } }" ∷
    passes "module M { task t { uses f; } start mode m [period=4us] { task [freq=4] t(); mode [freq=2] m; } }" ∷
    refused 9 "module M { start mode m [period=7us] { mode [freq=#2] m; } }" ∷
    passes "module M { const LLLLLLLLLLLLLLLLLLLLLLLLLLLLLLLL = 1; start mode m [period=1us] { } }" ∷
    refused 4 "module M { const #LLLLLLLLLLLLLLLLLLLLLLLLLLLLLLLLL = 1; start mode m [period=1us] { } }" ∷
    []

-- each row of the table once more
unfoldable pub table : List Case
table =
    refused 5 "module M { const a = 1; sensor int #a uses g; start mode m [period=1us] { } }" ∷
    refused 5 "module M { sensor int s uses g; task #s { uses f; } }" ∷
    refused 6 "module M { start mode m [period=1us] { mode [freq=1] #n; } }" ∷
    refused 6 "module M { start mode m [period=1us] { task [freq=1] #t(); } }" ∷
    refused 6 "module M { start mode m [period=1us] { mode [freq=1] if #holds() then m; } }" ∷
    refused 6 "module M { sensor int s uses g; start mode m [period=1us] { actuator [freq=1] #s := s; } }" ∷
    refused 6 "module M { actuator int a := 0 uses f; start mode m [period=1us] { mode [freq=1] if equal(#a, a) then m; } }" ∷
    refused 6 "module M { const t = 1; actuator int a := 0 uses f; start mode m [period=1us] { actuator [freq=1] a := #t.o; } }" ∷
    refused 7 "module M { const c = true; actuator int a := #c uses f; }" ∷
    refused 7 "module M { task t { output boolean o := #-5; uses f; } }" ∷
    refused 7 "module M { sensor boolean b uses g; task t { input int i; uses f; } start mode m [period=1us] { task [freq=1] t(#b); } }" ∷
    refused 7 "module M { task t { input int i; uses f; } start mode m [period=1us] { task [freq=1] #t(); } }" ∷
    refused 7 "module M { sensor int s uses g; start mode m [period=1us] { mode [freq=1] if isTrue(#s) then m; } }" ∷
    refused 7 "module M { sensor boolean b uses g; int s uses g; start mode m [period=1us] { mode [freq=1] if less(s, #b) then m; } }" ∷
    refused 6 "module M { sensor #word s uses g; actuator int a := 0 uses f; start mode m [period=1us] { actuator [freq=1] a := s; } }" ∷
    refused 10 "module M { sensor int s uses g; actuator int a := 0 uses f; start mode m [period=1us] { actuator [freq=1] a := s; [freq=1] #a := s; } }" ∷
    passes "module M { task t { uses f; } start mode m [period=1us] { task [freq=1] t(); } mode n [period=1us] { task [freq=1] t(); } }" ∷
    refused 9 "module M { sensor int s uses g; actuator int a := 0 uses f; start mode m [period=5us] { actuator [freq=#2] a := s; } }" ∷
    refused 12 "module M { mode m [period=1us] { } }#" ∷
    []

pub readings-right : T (every readings)
unfolding readings read_items answer_by refused_in
readings-right = tt

pub bench-right : T (every bench)
unfolding bench read_items answer_by refused_in
bench-right = tt

pub table-right : T (every table)
unfolding table read_items answer_by refused_in
table-right = tt
