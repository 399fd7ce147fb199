-- Refusals 2 and 3 by cases: texts as they are written, with the mark # where the refusal stands.
use Rattle.std.specs.Prelude.{ℕ, ◌+◌, List, [], ◌∷◌, Bool, true, false, cond, eqb, T}
use Prim.Native.Char.{code}
use Prim.Native.String.{String}
use Rattle.std.proofs.Math.Option.{Option, none, some}
use Rattle.model.specs.Bytes.{bytes, same, place_in}
use Rattle.text.specs.Spaces.{spaces}
use Rattle.text.specs.Words.{munch, keywords}
use Rattle.text.specs.Tokens.{key_tokens, sign_token, token_from, token_at}
use Rattle.text.specs.Expect.{refusal, want, want_any, want_word, closed}
use Rattle.text.specs.Productions.{truth_at, minus_at, number_at, named_at, literal_at, port_at, module_at, constant_at, sensor_at, actuator_at, task_at, input_at, output_at, task_end_at, mode_of, mode_at, activity_at, commas_in, count_at, guard_at, guard_arg_at, invoke_at, arg_at, update_at, switch_at}
use Rattle.text.specs.Items.{refused_at, section_of, portion_of, part_of, declaration_at, section_at, module_body_at, task_port_at, portion_at, task_body_at, head_at, part_at, mode_body_at, target_at, act_at, finish_at, item_at, items_in, Refusal, refused_in, syntax_of}

pub data Case : Type 0 where
  refused : ℕ → String → Case
  passes : String → Case

-- where the mark stands, and the text without it
abbrev pub mark_in : List ℕ → ℕ → ℕ
mark_in [] at = at
mark_in (x ∷ xs) at =
    let on = mark_in xs (at + 1) in
    cond (eqb x (code "#")) at on

abbrev pub unmarked : List ℕ → List ℕ
unmarked [] = []
unmarked (x ∷ xs) =
    let on = unmarked xs in
    cond (eqb x (code "#")) xs (x ∷ on)

abbrev pub answers : ℕ → ℕ → Option Refusal → Bool
answers number offset none = false
answers number offset (some refusal) = cond (eqb refusal.number number) (eqb refusal.offset offset) false

abbrev pub free : Option Refusal → Bool
free none = true
free (some refusal) = false

abbrev pub right : Case → Bool
right (refused number text) = answers number (mark_in (bytes text) 0) (syntax_of (unmarked (bytes text)))
right (passes text) = free (syntax_of (bytes text))

abbrev pub every : List Case → Bool
every [] = true
every (c ∷ cs) =
    let on = every cs in
    cond (right c) on false

unfoldable pub cases : List Case
cases =
    refused 3 "#" ∷
    refused 3 "module M {//\r}#" ∷
    refused 3 "//\rx#" ∷
    refused 3 "//\n#x" ∷
    refused 3 "/**/#x" ∷
    refused 3 "/***/#x" ∷
    refused 3 "/*/ */#x" ∷
    refused 3 "/* * / /* **/#x" ∷
    refused 3 " \t\r\n#x" ∷
    refused 2 "#/* *" ∷
    refused 2 "module M { #\u{b} }" ∷
    refused 2 "module M { #\0 }" ∷
    refused 2 "module M { #+ }" ∷
    refused 2 "module M {#: = }" ∷
    refused 2 "#:module M { }" ∷
    refused 2 "module M { #/ }" ∷
    refused 2 "module M { #*/ }" ∷
    refused 2 "module M { } #/* x" ∷
    refused 3 "#x /*" ∷
    refused 2 "module M { #/*/ }" ∷
    refused 3 "module M { /* // */ #x }" ∷
    refused 2 "module M { const s = #'x'; }" ∷
    refused 3 "module M { #public const a = 1; }" ∷
    refused 3 "module M { sensor int #type uses g; }" ∷
    refused 3 "module M { const a = 1#.5; }" ∷
    refused 3 "module M { const a = 0#x1F; }" ∷
    refused 3 "module M { const a = 5#ms; }" ∷
    refused 3 "#modulex M { }" ∷
    refused 3 "module M { // c #" ∷
    refused 3 "module   #" ∷
    refused 3 "module M { start mode m [#Period=5ms] { } }" ∷
    refused 3 "module M { start mode m [period=5#LLLLLLLLLLLLLLLLLLLLLLLLLLLLLLLLLLLL] { } }" ∷
    refused 3 "module M { const p = 5; start mode m [period=#p ms] { } }" ∷
    refused 3 "module M { start mode m [period=5#] { } }" ∷
    refused 3 "module M { const a = 1; b = -#a; }" ∷
    refused 3 "module M { sensor #const a = 1; }" ∷
    refused 3 "module M { task t { uses f; } #u { uses f; } }" ∷
    refused 3 "module M { task #}" ∷
    refused 3 "module M { task t { uses f; #uses f; } }" ∷
    refused 3 "module M { sensor int s uses g; start mode m [period=1us] { mode [freq=1] if less(s,#5) then m; } }" ∷
    refused 3 "module M#.N { }" ∷
    refused 3 "module M { sensor int s uses a#.b; }" ∷
    refused 3 "module #{ $" ∷
    refused 2 "module #$ {" ∷
    refused 3 "module M { task t { uses f; } start mode m [period=1us] { task [freq=1] t#; } }" ∷
    refused 3 "module M { start mode m [#5ms] { } }" ∷
    refused 3 "module M { actuator int a #uses f; }" ∷
    refused 3 "module M { sensor int s#; }" ∷
    refused 3 "module M { const a = 1; a = 2; b = zzz; } #}" ∷
    refused 3 "module M { task t { #init int i; uses f; } }" ∷
    refused 3 "module M { const #as = 1; }" ∷
    refused 3 "module M { const #asynchronous = 1; }" ∷
    refused 3 "module M { #import N; }" ∷
    refused 3 "module M { const #state = 1; }" ∷
    refused 3 "module M { const #struct = 1; }" ∷
    refused 3 "module M { start #x }" ∷
    refused 3 "module M { start mode m [period=1us] { #[freq=1] t(); } }" ∷
    refused 3 "module M { } #}" ∷
    refused 3 "module M { start mode m [period=1us] { actuator #task } }" ∷
    refused 3 "module M { start mode m [period=1us] { mode #actuator } }" ∷
    refused 3 "module M { task t { output #input int i; uses f; } }" ∷
    refused 3 "module M { task t { #} }" ∷
    refused 3 "module M { mode m [period=1us] { task [freq=1] t(s,#); } }" ∷
    refused 3 "module M { mode m [period=1us] { task [freq=1] t(#,s); } }" ∷
    refused 3 "module M { mode m [period=1us] { task [freq=1] t(s #s); } }" ∷
    refused 3 "module M { mode m [period=1us] { mode [freq=1] if f(s) #m; } }" ∷
    refused 3 "module M { start mode m [period=1us] { } #task t { uses f; } }" ∷
    refused 3 "module M { const a = 1 #b = 2; }" ∷
    refused 3 "module M { start mode m [period=5#ns] { } }" ∷
    passes "module _m1 { const a_1 = 5; _ = a_1; start mode m[period=1us]{}}" ∷
    passes "module M { const a = - /**/ 5; start mode m [period=1us] { } }" ∷
    passes "module M { const const sensor actuator actuator start mode m [period=1us] { task task actuator mode mode } }" ∷
    passes "module M { start mode m [period=1us] { mode [freq=1] m; } }" ∷
    passes "module int { const int = 1; sensor int boolean uses int; boolean less uses g; start mode m [period=1us] { mode [freq=1] if isTrue(less) then m; } }" ∷
    passes "module M { const a = 0000000000000000000000000000000000000000000000000000001; start mode m [period=01us] { } }" ∷
    passes "module M { task t { uses f; } start mode m [period=4us] { mode [freq=4] n; } mode n [period=4us] { task [freq=2] t(); } }" ∷
    passes "module M { start mode m [period=1us] { mode [freq=1] m; [freq=1] m; } }" ∷
    passes "module M { const g = 1; sensor int s uses g; int t uses g; start mode m [period=1us] { } }" ∷
    passes "module M { /* // */ }" ∷
    passes "module M { sensor int s uses g; actuator int a := 0 uses f; start mode m [period=1us] { actuator [freq=1] a := s.o; } }" ∷
    passes "module M { sensor LLLLLLLLLLLLLLLLLLLLLLLLLLLLLLLLL s uses g; }" ∷
    passes "module LLLLLLLLLLLLLLLLLLLLLLLLLLLLLLLLL { }" ∷
    passes "module M { task t { input int p; output int p := 1; uses f; } }" ∷
    passes "module M { const a = 1; a = a; }" ∷
    passes "module M { sensor int s uses g; actuator int a := s uses f; }" ∷
    passes "module M { sensor int s uses g; start mode m [period=1us] { mode [freq=1] if less(s,s,s) then m; } }" ∷
    passes "module M { start mode m [period=1us] { mode [freq=1] if isTrue() then m; } }" ∷
    passes "module M { sensor int s uses g; task u { uses f; } start mode m [period=1us] { task [freq=1] u(); [freq=1] u(s); } }" ∷
    passes "module M { actuator boolean a := -2147483649 uses f; }" ∷
    passes "module M { const i = 1; b = true; start mode m [period=1us] { mode [freq=1] if equal(i,b) then m; } }" ∷
    passes "module M { const a = 18446744073709551617; }" ∷
    passes "module M { start mode m [period=1us] { } start mode m [period=1us] { } }" ∷
    passes "module M { }" ∷
    passes "module M { task t { input int a; int b; int c; int d; int e; int f; int g; int h; int i; uses f; } }" ∷
    []

pub cases-right : T (every cases)
unfolding cases spaces munch keywords same place_in key_tokens sign_token token_from token_at refusal want want_any want_word closed truth_at minus_at number_at named_at literal_at port_at module_at constant_at sensor_at actuator_at task_at input_at output_at task_end_at mode_of mode_at activity_at commas_in count_at guard_at guard_arg_at invoke_at arg_at update_at switch_at refused_at section_of portion_of part_of declaration_at section_at module_body_at task_port_at portion_at task_body_at head_at part_at mode_body_at target_at act_at finish_at item_at items_in refused_in
cases-right = tt
