-- Document 01, 'Bench cases': those marked (P), in one table and one theorem, on the definitions of compiler, file and machine.
use Rattle.std.specs.Prelude.{ℕ, ◌+◌, Bool, true, false, ◌&&◌, List, [], ◌∷◌, length, take, T, eqb}
use Rattle.std.proofs.Math.Option.{Option, none, some}
use Rattle.model.specs.Bytes.{bytes, same}
use Rattle.model.specs.Values.{int, holds}
use Rattle.model.specs.Clock.{fits}
use Rattle.model.specs.Modules.{port_types, port_starts}
use Rattle.model.specs.Instructions.{Instr, nop, future, call, release, iff, jump, return, switch}
use Rattle.text.specs.Items.{refused_in}
use Rattle.file.specs.Tables.{Table}
use Rattle.file.specs.Files.{Answer, read, refused as unread, decode}
use Rattle.file.specs.Opened.{opened}
use Rattle.refusals.specs.Reading.{read_items, answer_by, module_by}
use Rattle.timing.specs.Slots.{spans}
use Rattle.timing.specs.Rules.{next_instant}
use Rattle.timing.specs.Code.{code_of, begins_of, drivers_of, code_from, begins_from, mode_code, later_blocks, back, front, instants_of, instants_from}
use Rattle.machine.specs.Words.{lowest_from}
use Rattle.machine.specs.Boards.{Board, board_of}
use Rattle.machine.specs.Instructions.{exec}
use Rattle.machine.specs.Store.{reaction}
use Rattle.machine.specs.Calls as C
use Rattle.machine.specs.Calls.{State, Ticked, reacted, next_task}
use Rattle.machine.specs.Asks.{Ask, tick, next, finish, means, asks}
use Rattle.machine.specs.Starts.{start}
use Rattle.machine.specs.Answers.{Meaning, reaction_means}
use Rattle.prescribed.specs.Tables.{table_of}
use Rattle.prescribed.specs.Compiles.{Compiling, file, refused, file_of, compile_of}

-- ---- what a case asks

-- What must be seen after a call: number, instructions and task of the answer, what remains, the module's ports.
pub record Sight : Type 0 where
  pub number : ℕ
  pub instructions : ℕ
  pub task : Option ℕ
  pub remaining : ℕ
  pub ports : List ℕ

-- a start's count and readings, and what must be seen
pub record Begin : Type 0 where
  pub count : ℕ
  pub words : List ℕ
  pub sight : Sight

-- a call, and what must be seen
pub record Step : Type 0 where
  pub call : Ask
  pub sight : Sight

-- a text and its answer, or a text with calls
pub data Case : Type 0 where
  gives : List ℕ → List ℕ → Case  -- text, file
  refuses : List ℕ → ℕ → ℕ → Case  -- text, number, offset
  passes : List ℕ → Case  -- text
  blocks : List ℕ → List ℕ → Case  -- text of one mode, the times of its blocks
  plays : List ℕ → Begin → List Step → Case  -- text, start and calls on int values

-- ---- how it is answered

is_none : Option ℕ → Bool
is_none none = true
is_none (some n) = false

is_some : Option ℕ → ℕ → Bool
is_some none n = false
is_some (some m) n = eqb m n

same_task : Option ℕ → Option ℕ → Bool
same_task none other = is_none other
same_task (some task) other = is_some other task

-- the times of blocks that follow one another by their futures
times_from : ℕ → List Instr → List ℕ
times_from t [] = t ∷ []
times_from t (nop marker ∷ rest) = times_from t rest
times_from t (future pc delay ∷ rest) = t ∷ times_from (t + delay) rest
times_from t (call driver ∷ rest) = times_from t rest
times_from t (release task ∷ rest) = times_from t rest
times_from t (iff guard pc ∷ rest) = times_from t rest
times_from t (jump pc ∷ rest) = times_from t rest
times_from t (return ∷ rest) = times_from t rest
times_from t (switch mode ∷ rest) = times_from t rest

-- whether every future of one mode's code names the block behind it, which begins behind the next return, and the jump its begin block
aimed : ℕ → Option ℕ → List Instr → Bool
aimed place target [] = is_none target
aimed place target (nop marker ∷ rest) = aimed (place + 1) target rest
aimed place target (future pc delay ∷ rest) = is_none target && aimed (place + 1) (some pc) rest
aimed place target (call driver ∷ rest) = aimed (place + 1) target rest
aimed place target (release task ∷ rest) = aimed (place + 1) target rest
aimed place target (iff guard pc ∷ rest) = aimed (place + 1) target rest
aimed place target (jump pc ∷ rest) = eqb pc 0 && aimed (place + 1) target rest
aimed place target (return ∷ rest) = is_some target (place + 1) && aimed (place + 1) none rest
aimed place target (switch mode ∷ rest) = aimed (place + 1) target rest

table_in : Answer → Option Table
table_in (read t) = some t
table_in (unread number) = none

compiled : Compiling → Option Table
compiled (file content) = table_in (decode content)
compiled (refused number at) = none

types : List ℕ → List ℕ
types [] = []
types (word ∷ words) = int ∷ types words

shows : Sight → Meaning → State → Bool
shows sight answer m =
    (eqb answer.number sight.number && (eqb answer.instructions sight.instructions && same_task answer.task sight.task))
    && (eqb m.remaining sight.remaining && same (take (length sight.ports) m.store.ports) sight.ports)

-- steps from a state on
steps_on : Board → List Step → State → Bool
steps_on b [] m = true
steps_on b (step ∷ steps) m = let r = asks b step.call m in shows step.sight (means r.answer) r.state && steps_on b steps r.state

played : Option Table → Begin → List Step → Bool
played none begin steps = false
played (some t) begin steps =
    let r = start t begin.count (types begin.words) begin.words in
    shows begin.sight (reaction_means r.answer) r.state && steps_on (board_of t) steps r.state

unfoldable pub is_file : Compiling → Bool
is_file (file content) = true
is_file (refused number at) = false

is_this : Compiling → List ℕ → Bool
is_this (file content) wanted = same content wanted
is_this (refused number at) wanted = false

unfoldable pub is_refusal : Compiling → ℕ → ℕ → Bool
is_refusal (file content) number at = false
is_refusal (refused given there) number at = eqb given number && eqb there at

are_blocks : Option Table → List ℕ → Bool
are_blocks none times = false
are_blocks (some t) times = same (times_from 0 t.code) times && aimed 0 none t.code

room : ℕ
room = 100000

holds_of : Case → Bool
holds_of (gives text content) = is_this (compile_of text room) content
holds_of (refuses text number at) = is_refusal (compile_of text room) number at
holds_of (passes text) = is_file (compile_of text room)
holds_of (blocks text times) = are_blocks (compiled (compile_of text room)) times
holds_of (plays text begin steps) = played (compiled (compile_of text room)) begin steps

-- whether every case holds
pub every : List Case → Bool
every [] = true
every (c ∷ cs) = holds_of c && every cs

-- ---- the cases

-- 1: 77 bytes
unfoldable pub smallest : List ℕ
smallest = bytes "module M { start mode m [period = 5ms] { } }"

smallest_file : List ℕ
smallest_file =
    0 ∷ 0 ∷ 0 ∷ 0x49 ∷ 1 ∷ 1 ∷ 0x4D ∷ 0 ∷ 0 ∷ 0 ∷ 0 ∷ 0 ∷ 0 ∷ 0 ∷ 0 ∷ 0 ∷ 0 ∷ 0 ∷ 1 ∷ 1 ∷ 0x6D ∷ 1 ∷ 0 ∷ 0 ∷ 0x13 ∷ 0x88 ∷ 0 ∷ 0 ∷ 0 ∷ 0 ∷ 0 ∷ 5
    ∷ 1 ∷ 0 ∷ 0 ∷ 0 ∷ 2 ∷ 0 ∷ 0 ∷ 0x13 ∷ 0x88
    ∷ 6 ∷ 255 ∷ 255 ∷ 255 ∷ 255 ∷ 255 ∷ 255 ∷ 255 ∷ 255
    ∷ 0 ∷ 0 ∷ 0 ∷ 0 ∷ 1 ∷ 255 ∷ 255 ∷ 255 ∷ 255
    ∷ 0 ∷ 0 ∷ 0 ∷ 0 ∷ 2 ∷ 255 ∷ 255 ∷ 255 ∷ 255
    ∷ 5 ∷ 0 ∷ 0 ∷ 0 ∷ 0 ∷ 255 ∷ 255 ∷ 255 ∷ 255 ∷ []

-- 8: the dock of the phantom bikes; its ports are bikes, sign, the input and o
bikes : List ℕ
bikes =
    bytes
    "module M { sensor int bikes uses g; actuator int sign := 0 uses f; task count { input int i; output int o := 10; uses c; } start mode m [period=5ms] { task [freq=1] count(bikes); actuator [freq=1] sign := count.o; } }"

sight : ℕ → ℕ → Option ℕ → ℕ → List ℕ → Sight
sight number instructions task remaining ports = record { number = number; instructions = instructions; task = task; remaining = remaining; ports = ports }

ticks : ℕ → List ℕ → Sight → Step
ticks count words sight = record { call = tick count (types words) words; sight = sight }

-- start at count 4,294,965,000 reading 7: 4 instructions, input 7
begun : Begin
begun = record { count = 4294965000; words = 7 ∷ []; sight = sight 0 4 none 5000 (7 ∷ 0 ∷ 7 ∷ 10 ∷ []) }

handed : Step
handed = record { call = next; sight = sight 0 0 (some 0) 5000 (7 ∷ 0 ∷ 7 ∷ 10 ∷ []) }

-- finish with 8: o still 10
finished : Step
finished = record { call = finish 0 (int ∷ []) (8 ∷ []); sight = sight 0 0 none 5000 (7 ∷ 0 ∷ 7 ∷ 10 ∷ []) }

-- tick 4,294,967,000: idle, 3,000 remain
idled : Step
idled = ticks 4294967000 (1 ∷ []) (sight 0 0 none 3000 (7 ∷ 0 ∷ 7 ∷ 10 ∷ []))

-- tick 2,704 reading 9: 9 instructions, o and sign 8, input 9
served : Step
served = ticks 2704 (9 ∷ []) (sight 0 9 none 5000 (9 ∷ 8 ∷ 9 ∷ 8 ∷ []))

-- tick 2,705 instead: 33
missed : Step
missed = ticks 2705 (9 ∷ []) (sight 33 0 none 3000 (7 ∷ 0 ∷ 7 ∷ 10 ∷ []))

-- without the finish: fault 40, which names task 0; sign 0
late : Step
late = ticks 2704 (9 ∷ []) (sight 40 0 (some 0) 5000 (7 ∷ 0 ∷ 7 ∷ 10 ∷ []))

-- behind a fault: 31
stopped : Step
stopped = ticks 2704 (9 ∷ []) (sight 31 0 none 5000 (7 ∷ 0 ∷ 7 ∷ 10 ∷ []))

-- the bench cases marked (P)
pub cases : List Case
cases =
    gives smallest smallest_file ∷
    refuses [] 3 0 ∷
    passes (bytes "module M { const a = -2147483648; start mode m [period=1us] { } }") ∷
    refuses (bytes "module M { const a = 2147483648; start mode m [period=1us] { } }") 8 21 ∷
    refuses (bytes "module M { task t { uses f; } start mode m [period=4us] { task [freq=2] t(); mode [freq=4] m; } }") 9 88 ∷
    passes (bytes "module M { task t { uses f; } start mode m [period=4us] { task [freq=4] t(); mode [freq=2] m; } }") ∷
    blocks
    (bytes "module M { actuator int a := 0 uses f; task t { output int o := 0; uses f; } start mode m [period=10ms] { task [freq=2] t(); actuator [freq=5] a := t.o; } }")
    (0 ∷ 2000 ∷ 4000 ∷ 5000 ∷ 6000 ∷ 8000 ∷ 10000 ∷ []) ∷
    plays bikes begun (handed ∷ finished ∷ idled ∷ served ∷ []) ∷
    plays bikes begun (handed ∷ finished ∷ served ∷ []) ∷
    plays bikes begun (handed ∷ late ∷ stopped ∷ []) ∷
    plays bikes begun (handed ∷ finished ∷ idled ∷ missed ∷ served ∷ []) ∷
    []

-- every one of them holds
pub bench : T (every cases)
unfolding is_none is_some same_task times_from aimed table_in compiled types shows steps_on played is_file is_this is_refusal are_blocks room holds_of every smallest smallest_file bikes sight ticks begun handed finished idled served missed late stopped cases refused_in read_items answer_by module_by opened compile_of file_of table_of code_of begins_of drivers_of code_from begins_from mode_code later_blocks back front instants_of instants_from next_instant spans port_types port_starts fits holds board_of lowest_from exec reaction reacted C.tick next_task C.finish start same
bench = tt
