-- Bench case 8 of document 01, from the text to the sign: whatever the code answers by its contracts, the dock shows 9, 8, 9, 8.
use Rattle.std.specs.Prelude.{ℕ, ◌≡◌, refl, Bool, true, false, List, [], ◌∷◌, length, take, replicate}
use Rattle.std.proofs.Common.{arith, sym, ◌∙◌, ap, subst}
use Rattle.std.proofs.Math.Option.{Option, some}
use Rattle.std.proofs.lemmas.List.{length-replicate}
use Rattle.model.specs.Bytes.{bytes, same}
use Rattle.model.specs.Values.{int}
use Rattle.model.specs.Clock.{fits}
use Rattle.model.specs.Modules.{port_types, port_starts}
use Rattle.refusals.specs.Texts.{module_of}
use Rattle.timing.specs.Slots.{spans}
use Rattle.timing.specs.Rules.{next_instant, entered, instant}
use Rattle.timing.specs.Calls.{View, ask, started, comes, reading_types}
use Rattle.timing.specs.SlotLaws.{Each}
use Rattle.timing.specs.Accepted.{ports}
use Rattle.timing.specs.Lates.{Prompt}
use Rattle.machine.specs.Asks.{Ask, tick, next, finish, Answer}
use Rattle.emachine.specs.declared.Machine.{Machine}
use Rattle.refusals.specs.Reading.{read_items, answer_by, module_by}
use Rattle.text.specs.Items.{refused_in}
use Rattle.prescribed.specs.Compiled.{Written}
use Rattle.prescribed.specs.Compiles.{Compiling, file, refused, file_of, compile_of}
use Rattle.prescribed.specs.Answers.{answered, buffered}
use Rattle.file.specs.Opened.{opened}
use Rattle.timing.specs.Code.{code_of, begins_of, drivers_of, code_from, begins_from, mode_code, later_blocks, back, front, instants_of, instants_from}
use Rattle.prescribed.specs.Tables.{table_of}
use Rattle.demands.specs.Uses.{Compiles, Runs, Launch, Faults}
use Rattle.demands.specs.Terms.{Halted, InTime}
use Rattle.demands.specs.Demands.{can-launch, shows, in-time-is, no-fault}

abbrev pub bikes : List ℕ
bikes =
    bytes
    "module M { sensor int bikes uses g; actuator int sign := 0 uses f; task count { input int i; output int o := 10; uses c; } start mode m [period=5ms] { task [freq=1] count(bikes); actuator [freq=1] sign := count.o; } }"

-- next; finish with 8; a tick that idles; the tick that ends the slot, reading 9
abbrev pub calls : List Ask
calls = next ∷ finish 0 (int ∷ []) (8 ∷ []) ∷ tick 4294967000 (int ∷ []) (1 ∷ []) ∷ tick 2704 (int ∷ []) (9 ∷ []) ∷ []

-- the same without the finish
abbrev pub unfinished_calls : List Ask
unfinished_calls = next ∷ tick 2704 (int ∷ []) (9 ∷ []) ∷ []

-- The text compiles to a buffer of 1,000 bytes, so there is such a launch.
is_file : Compiling → Bool
is_file (file content) = true
is_file (refused number at) = false

accepts : is_file (compile_of bikes 1000) ≡ true
unfolding is_file refused_in read_items answer_by module_by opened compile_of file_of table_of code_of begins_of drivers_of code_from begins_from mode_code later_blocks back front instants_of instants_from next_instant spans port_types port_starts fits same
accepts = refl

reads : fits (reading_types (module_of bikes)) (int ∷ []) (7 ∷ []) ≡ true
unfolding fits read_items module_by
reads = refl

pub case8-launches : (l : Launch) × ((l.text ≡ bikes) × ((l.count ≡ 4294965000) × (l.words ≡ 7 ∷ [])))
unfolding is_file
case8-launches = go (compile_of bikes 1000) refl accepts
  where
    go : (c : Compiling) → compile_of bikes 1000 ≡ c → is_file c ≡ true → (l : Launch) × ((l.text ≡ bikes) × ((l.count ≡ 4294965000) × (l.words ≡ 7 ∷ [])))
    go (file content) e h =
        let before : List ℕ = replicate 1000 0 in
        let room : length before ≡ 1000 = length-replicate {A = ℕ} 1000 0 in
        let q : compile_of bikes (length before) ≡ file content = ap (compile_of bikes) room ∙ e in
        let c : Compiles bikes before (Written (length content)) (buffered before (compile_of bikes (length before))) = record { answers = sym (ap answered q); buffer = refl } in
        let (l, s) = can-launch bikes before (length content) (buffered before (compile_of bikes (length before))) c 4294965000 (int ∷ []) (7 ∷ []) reads in
        (l, (s.same_text, (s.same_count, s.same-words)))
    go (refused number at) e h = let z : ◌≡◌ {A = ℕ} 0 1 = cc in absurd (omega arith)

abbrev from : List ℕ → ℕ → List ℕ → View
from text count words = started (module_of text) count words

abbrev then : List Ask → List ℕ → ℕ → List ℕ → View
then asks text count words = comes (module_of text) asks (from text count words)

by-rules : (then calls bikes 4294965000 (7 ∷ [])).place.store.ports ≡ 9 ∷ 8 ∷ 9 ∷ 8 ∷ []
unfolding started ask entered instant next_instant spans port_starts fits read_items module_by
by-rules = refl

prompt : Prompt (module_of bikes) calls (from bikes 4294965000 (7 ∷ []))
unfolding started ask entered instant next_instant spans port_starts fits read_items module_by
prompt = (tt, (tt, ((λ d. (refl, tt)), ((λ d. (refl, tt)), tt))))

late-rules : (then unfinished_calls bikes 4294965000 (7 ∷ [])).stopped ≡ some 0
unfolding started ask entered instant next_instant spans port_starts fits read_items module_by
late-rules = refl

module _ (l : Launch) (text : l.text ≡ bikes) (count : l.count ≡ 4294965000) (words : l.words ≡ 7 ∷ []) where
  at : {A : Type 0} (f : List ℕ → ℕ → List ℕ → A) → f l.text l.count l.words ≡ f bikes 4294965000 (7 ∷ [])
  at f = ap (λ (t : List ℕ). f t l.count l.words) text ∙ ap (λ (c : ℕ). f bikes c l.words) count ∙ ap (λ (w : List ℕ). f bikes 4294965000 w) words

  -- Finished in time: the reading is 9, the sign 8, the input 9, the output 8; no fault, and not stopped.
  module _ (answers : List Answer) (m : Machine) (run : Runs l.begun.machine calls answers m) where
    pub case8 : take (ports (module_of l.text)) m.ports ≡ 9 ∷ 8 ∷ 9 ∷ 8 ∷ []
    case8 = (shows l calls answers m run).ports-are ∙ at (λ t c w. (then calls t c w).place.store.ports) ∙ by-rules

    pub case8-in-time : InTime l calls answers
    case8-in-time =
        (in-time-is l calls answers m run).1
        (subst (λ (t : List ℕ). Prompt (module_of t) calls (from t l.count l.words)) (sym text) (subst (λ (c : ℕ). Prompt (module_of bikes) calls (from bikes c l.words)) (sym count) (subst (λ (w : List ℕ). Prompt (module_of bikes) calls (from bikes 4294965000 w)) (sym words) prompt)))

    pub case8-goes-on : Each (λ x. Faults x → ⊥) answers × (m.standing.stopped ≡ false)
    case8-goes-on = no-fault l calls answers m run case8-in-time

  -- Not finished: stopped by 40 and task 0.
  pub case8-late : (answers : List Answer) (m : Machine) → Runs l.begun.machine unfinished_calls answers m → (m.standing.stopped ≡ true) × ((m.standing.fault ≡ 40) × (m.standing.late ≡ 0))
  case8-late answers m run =
      subst (λ (o : Option ℕ). Halted o m.standing) (at (λ t c w. (then unfinished_calls t c w).stopped) ∙ late-rules) (shows l unfinished_calls answers m run).halted
