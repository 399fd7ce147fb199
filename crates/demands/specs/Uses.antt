-- A host's use of the toolchain, said by the contracts of the code's functions alone: compile, read, write, start, and any list of calls of a machine.
-- Definitions only; the words of the timing rules stand in Terms, the theorems in Demands.
use Rattle.std.specs.Prelude.{Result, ℕ, ◌+◌, ◌≤◌, ◌≡◌, Bool, List, [], ◌∷◌, ◌++◌, length, take}
use Rattle.std.proofs.Math.Option.{Option, none, some}
use Rattle.codec.specs.Codecs.{Bytes}
use Rattle.model.specs.Modules.{Module}
use Rattle.refusals.specs.Texts.{module_of}
use Rattle.file.specs.Files.{decode}
use Rattle.file.specs.Answers.{writes, written}
use Rattle.file.specs.declared.ReadAnswer.TheVariants.{Read}
use Rattle.file.specs.declared.Refused.{Refused as Refusal}
use Rattle.timing.specs.Calls.{View, started, comes}
pub use Rattle.machine.specs.Asks.{means}
use Rattle.machine.specs.Asks.{Ask, tick, next, finish, Answer, ticking, turning, finishing}
use Rattle.machine.specs.Answers.{Meaning, meaning}
use Rattle.machine.specs.Boards.{board_of}
use Rattle.machine.specs.Instructions.{Tally}
use Rattle.machine.specs.Store.{Store, reaction}
use Rattle.machine.specs.Calls as C
use Rattle.machine.specs.Starts.{fresh, no_machine}
use Rattle.tables.specs.declared.Table.{Table}
use Rattle.reading.specs.declared.Reading.{Reading}
use Rattle.reading.specs.Readings.{reading_of}
use Rattle.ecode.specs.Sound.{sound_in, bytes_of}
use Rattle.emachine.specs.declared.Machine.{Machine}
use Rattle.emachine.specs.declared.Ticked.{Ticked}
use Rattle.emachine.specs.declared.Handed.{Handed}
use Rattle.emachine.specs.declared.Finished.{Finished}
use Rattle.emachine.specs.Machines.{board_in, state_in, machine_of, ticked_on, handed_on, finished_on}
use Rattle.starting.specs.Starting.{Started}
use Rattle.prescribed.specs.Compiled.{Compiled}
use Rattle.prescribed.specs.Compiled.{Written}
use Rattle.prescribed.specs.Tables.{table_of}
use Rattle.prescribed.specs.Compiles.{compile_of}
use Rattle.prescribed.specs.Answers.{answered, buffered}
use Rattle.machine.specs.Obeys.{Point}

-- ---- what the contracts say; `starting::start` says `Started` (starting, Starting)

-- `tdl::compile`: the answer, and the buffer then
pub record Compiles (text before : List ℕ) (answer : Compiled) (after : List ℕ) : Type 0 where
  pub answers : answer ≡ answered (compile_of text (length before))
  pub buffer : after ≡ buffered before (compile_of text (length before))

-- `ecode::read`
abbrev pub Reads : List ℕ → Reading → Type 0
Reads bytes r = r ≡ reading_of (decode bytes)

-- `ecode::write`
pub record Writes (table : Table) (before : List ℕ) (answer : Result ℕ Refusal) (after : List ℕ) : Type 0 where
  pub answers : answer ≡ writes (sound_in table) (bytes_of table) before
  pub buffer : after ≡ written (sound_in table) (bytes_of table) before

-- `ecode::sound`
abbrev pub Judges : Table → Bool → Type 0
Judges table answer = answer ≡ sound_in table

-- `emachine::tick`, `next_task`, `finish`: a call of a machine, the answer, and the machine then
abbrev pub Serves : Machine → Ask → Answer → Machine → Type 0
Serves m (tick count types words) (ticking x) n = ◌≡◌ {A = Ticked} (record { answer = x; machine = n }) (ticked_on m.table (C.tick (board_in m.table) (state_in m) count types words))
Serves m (tick count types words) (turning x) n = ⊥
Serves m (tick count types words) (finishing x) n = ⊥
Serves m next (ticking x) n = ⊥
Serves m next (turning x) n = ◌≡◌ {A = Handed} (record { answer = x; machine = n }) (handed_on m.table (C.next_task (state_in m)))
Serves m next (finishing x) n = ⊥
Serves m (finish task types words) (ticking x) n = ⊥
Serves m (finish task types words) (turning x) n = ⊥
Serves m (finish task types words) (finishing x) n = ◌≡◌ {A = Finished} (record { answer = x; machine = n }) (finished_on m.table (C.finish (board_in m.table) (state_in m) task types words))

-- `emachine::look`: what is shown
abbrev pub Looks : Machine → Machine → Type 0
Looks m shown = shown ≡ machine_of m.table (C.look (state_in m))

-- `emachine::tasks_out`
abbrev pub CountsOut : Machine → ℕ → Type 0
CountsOut m answer = answer ≡ C.tasks_out (state_in m)

-- exactly one answer meets a contract
pub record One {A : Type 0} (Meets : A → Type 0) : Type 0 where
  pub it : A
  pub meets : Meets it
  pub once : (other : A) → Meets other → other ≡ it

-- ---- answers by document 01's numbers

-- its number: 0 where it is neither a refusal nor a fault (`means`: machine, Asks)
abbrev pub number : Answer → ℕ
number x = (means x).number

-- a refusal, by its number alone
abbrev pub refusal : ℕ → Meaning
refusal n = meaning n 0 none

-- refused: 30 to 35
abbrev pub Refuses : Answer → Type 0
Refuses x = (30 ≤ number x) × (number x ≤ 35)

-- a fault: 40 to 43
abbrev pub Faults : Answer → Type 0
Faults x = (40 ≤ number x) × (number x ≤ 43)

-- the late task that a fault names; 0 where none is
abbrev pub late_in : Option ℕ → ℕ
late_in none = 0
late_in (some task) = task

-- the numbers that a start, and each call, can answer with
abbrev pub start_numbers : List ℕ
start_numbers = 0 ∷ 30 ∷ 32 ∷ 40 ∷ 41 ∷ 42 ∷ 43 ∷ []

abbrev pub numbers_of : Ask → List ℕ
numbers_of (tick count types words) = 0 ∷ 31 ∷ 32 ∷ 33 ∷ 40 ∷ 41 ∷ 42 ∷ 43 ∷ []
numbers_of next = 0 ∷ 31 ∷ []
numbers_of (finish task types words) = 0 ∷ 31 ∷ 34 ∷ 35 ∷ []

-- ---- machines

-- a machine stopped by a fault, all else as before
abbrev pub stopped : ℕ → ℕ → Machine → Machine
stopped fault task m = machine_of m.table (C.stopped_by fault task (state_in m))

-- beginning values, the count given, 0 remaining
abbrev pub new_machine : Table → ℕ → Machine
new_machine table count = machine_of table (fresh (board_in table) count)

-- what stands where a start is refused
abbrev pub blank_machine : Table → Machine
blank_machine table = machine_of table no_machine

-- a table that the reader returns for some bytes
pub record Readable (table : Table) : Type 0 where
  pub bytes : List ℕ
  pub whole : Bytes bytes
  pub reads : Reads bytes (record { answer = Read; table = table })

-- how many instructions the module's prescribed code obeys in one reaction from where a machine stands, by the definition
abbrev pub steps_from : Module → Machine → List ℕ → ℕ
steps_from M m words = (reaction (board_of (table_of M)) m.aside m.standing.mode m.standing.pc (C.sensed words (state_in m).store)).tally.steps

-- ---- a reaction under way (machine, Obeys: a point is the place, the mode, the future, what is counted and the store)

-- the next instruction, with what is counted and the store then
abbrev pub onward : Point → Tally → Store → Point
onward p tally store = record { pc = p.pc + 1; mode = p.mode; future = p.future; tally = tally; store = store }

-- the same store with other ports
abbrev pub with_ports : Store → List ℕ → Store
with_ports s ports = record { ports = ports; out = s.out; waiting = s.waiting; finished = s.finished }

-- ---- calls one after the other

-- their answers, and the machine then
abbrev pub Runs : Machine → List Ask → List Answer → Machine → Type 0
Runs m [] [] n = n ≡ m
Runs m [] (x ∷ answers) n = ⊥
Runs m (a ∷ calls) [] n = ⊥
Runs m (a ∷ calls) (x ∷ answers) n = (k : Machine) × (Serves m a x k × Runs k calls answers n)

-- a place on the way of a run: behind some of its calls
pub record Midway (m : Machine) (calls later : List Ask) (answers : List Answer) (n : Machine) : Type 0 where
  pub so_far : List Answer
  pub to-come : List Answer
  pub machine : Machine
  pub parts : answers ≡ so_far ++ to-come
  pub reached : Runs m calls so_far machine
  pub onward : Runs machine later to-come n

-- ---- from a text to a machine

-- A text is compiled to a buffer; the file that was written is read; the table that was read is started, and the start is not refused.
pub record Launch : Type 0 where
  -- handed in
  pub text : List ℕ
  pub before : List ℕ
  pub count : ℕ
  pub types : List ℕ
  pub words : List ℕ
  -- answered
  pub size : ℕ
  pub after : List ℕ
  pub reading : Reading
  pub begun : Ticked
  -- by the contracts of `tdl::compile`, `ecode::read` and `starting::start`
  pub compiles : Compiles text before (Written size) after
  pub reads : Reads (take size after) reading
  pub starts : Started reading.table count types words begun
  pub accepted : Refuses (ticking begun.answer) → ⊥

-- a launch of that text with these readings at that count
pub record Launched (text : List ℕ) (count : ℕ) (types words : List ℕ) (l : Launch) : Type 0 where
  pub same_text : l.text ≡ text
  pub same_count : l.count ≡ count
  pub same-types : l.types ≡ types
  pub same-words : l.words ≡ words

-- the module of the text; what the timing rules say behind the start, and behind calls
abbrev pub module_in : Launch → Module
module_in l = module_of l.text

abbrev pub first : Launch → View
first l = started (module_in l) l.count l.words

abbrev pub rules : Launch → List Ask → View
rules l calls = comes (module_in l) calls (first l)
