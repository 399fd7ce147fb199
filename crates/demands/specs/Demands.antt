-- The three demands over the code's contracts, one theorem for each sentence. Read Uses and Terms for the words; the proofs stand elsewhere and are cited.
use Rattle.std.specs.Prelude.{Result, Ok, ℕ, suc, ◌+◌, ◌*◌, ◌≤◌, ◌<◌, ◌≡◌, refl, ◌≢◌, ◌⊎◌, Bool, true, false, cond, ◌&&◌, not, List, ◌++◌, map, length, get_or, set, take, drop}
use Rattle.std.proofs.Math.Option.{none, some}
use Rattle.codec.specs.Codecs.{Bytes}
use Rattle.model.specs.Rooms.{port_room}
use Rattle.model.specs.Values.{holds, no_guard}
use Rattle.model.specs.Clock.{elapsed, fits}
use Rattle.model.specs.Modules.{place, copy_to}
use Rattle.model.specs.Instructions.{nop, future, call, release, iff, jump, return, switch, updates, releases, terminates}
use Rattle.refusals.specs.Texts.{module_of}
use Rattle.file.specs.Answers.{read_number, write_number}
use Rattle.file.specs.Bounds.{Between}
use Rattle.file.specs.declared.ReadAnswer.TheVariants.{Read}
use Rattle.file.specs.declared.Refused.{Refused as Refusal}
use Rattle.timing.specs.SlotLaws.{Each}
use Rattle.timing.specs.Rules.{outputs_of}
use Rattle.timing.specs.Calls.{ask, replies, reading_types}
use Rattle.timing.specs.Lates.{ending_next, Prompt}
use Rattle.timing.specs.Orders.{among, dues, Keeps}
use Rattle.timing.specs.Causes.{Vary, Calm}
use Rattle.timing.specs.PortLaws.{output_count, SensorPort, ActuatorPort, InputPort}
use Rattle.timing.specs.Docks.{reply_to}
use Rattle.machine.specs.Asks.{Ask, tick, Answer, ticking}
use Rattle.machine.specs.declared.Reaction.{Reaction}
use Rattle.machine.specs.declared.Reaction.TheVariants.{Obeyed, Late}
use Rattle.machine.specs.Answers.{meaning}
use Rattle.machine.specs.Words.{has, joined, parted, count_in}
use Rattle.machine.specs.Boards.{Board}
use Rattle.machine.specs.Instructions.{late, wild, astray, clash, ok, Future, no_tally, counted, step, fail}
use Rattle.machine.specs.Store.{part, lot_of}
use Rattle.machine.specs.Calls as M
use Rattle.machine.specs.Counts.{history, opened}
use Rattle.machine.specs.Starts.{fresh}
use Rattle.tables.specs.declared.Table.{Table}
use Rattle.layout.specs.Plain.{struct_of}
use Rattle.reading.specs.declared.Reading.{Reading}
use Rattle.ecode.specs.Sound.{bytes_of}
use Rattle.emachine.specs.declared.Machine.{Machine}
use Rattle.emachine.specs.declared.Ticked.{Ticked}
use Rattle.emachine.specs.Machines.{board_in, state_in, ticked_on}
use Rattle.starting.specs.Starting.{Started}
use Rattle.prescribed.specs.Tables.{table_of}
use Rattle.prescribed.specs.Compiled.{Compiled}
use Rattle.prescribed.specs.Compiled as W
use Rattle.prescribed.specs.Compiles.{refused, file_of}
use Rattle.prescribed.specs.Acceptance.{Answers, Accepts}
use Rattle.prescribed.specs.Numbers.{Listed}
use Rattle.bridge.specs.Promises.{DueNow}
use Rattle.machine.specs.Numbers.{one_of}
use Rattle.machine.specs.Obeys as Op
use Rattle.machine.specs.Obeys.{Point, At, Calls, goes}
use Rattle.demands.specs.Uses.{Compiles, Reads, Writes, Judges, Serves, Looks, CountsOut, One, means, number, refusal, Refuses, Faults, late_in, start_numbers, numbers_of, stopped, new_machine, blank_machine, Readable, steps_from, onward, with_ports, Runs, Midway, Launch, Launched, module_in, first, rules}
use Rattle.demands.specs.Terms.{word, Same, InTime, owed_after, first_owed, HandsOver, Sets, Senses, Fills, Rests, Alike, releases_so_far, terminations_so_far, seen, log}
use Rattle.demands.specs.Calling as C
use Rattle.demands.specs.Begins as B
use Rattle.demands.specs.Filing as F
use Rattle.demands.specs.Launches as L
use Rattle.demands.specs.Timing as T
use Rattle.demands.specs.Changing as P
use Rattle.demands.specs.Counting as N
use Rattle.demands.specs.Ordering as O

-- ======== DEMAND 1

-- Any text, any bytes, any table, any machine, any order of calls and any clock reading get a defined answer: exactly one meets the contract. That every call ends is part of each function's proof.
pub compile-defined : (text before : List ℕ) → One {A = Compiled × List ℕ} (λ r. Compiles text before r.0 r.1)
compile-defined = C.compile-one

pub read-defined : (bytes : List ℕ) → One (Reads bytes)
read-defined = C.read_one

pub write-defined : (table : Table) (before : List ℕ) → One {A = Result ℕ Refusal × List ℕ} (λ r. Writes table before r.0 r.1)
write-defined = C.write-one

pub sound-defined : (table : Table) → One (Judges table)
sound-defined = B.judge-one

pub start-defined : (table : Table) (count : ℕ) (types words : List ℕ) → One (Started table count types words)
start-defined = B.start-one

pub call-defined : (m : Machine) (a : Ask) → One {A = Answer × Machine} (λ r. Serves m a r.0 r.1)
call-defined = C.call-one

-- No other refusal exists: compile refuses with one of 1 to 14 at a place in the text or at its end; read gives a table or one of 20 to 24; write the length of the file, 30 or 14.
pub compile-numbers : (text before : List ℕ) (number at : ℕ) (after : List ℕ) → Compiles text before (W.Refused number at) after → Listed text number at
compile-numbers = C.compile-numbers

pub read-numbers : (bytes : List ℕ) (r : Reading) → Reads bytes r → (r.answer ≡ Read) ⊎ Between 20 24 (read_number r.answer)
read-numbers = C.read-numbers

pub write-numbers : (table : Table) (before : List ℕ) (answer : Result ℕ Refusal) (after : List ℕ) → Writes table before answer after
    → (answer ≡ Ok (length (bytes_of table))) ⊎ ((write_number answer ≡ 30) ⊎ (write_number answer ≡ 14))
write-numbers = C.write-numbers

-- Nor any other refusal or fault of the machine: start answers 30, 32, 40 to 43, or 0 for none; tick 31 to 33, 40 to 43; next 31; finish 31, 34, 35.
pub start-numbers : (table : Table) (count : ℕ) (types words : List ℕ) (r : Ticked) → Started table count types words r → one_of start_numbers (number (ticking r.answer)) ≡ true
start-numbers = B.start-numbers

pub call-numbers : (m : Machine) (a : Ask) (x : Answer) (n : Machine) → Serves m a x n → one_of (numbers_of a) (number x) ≡ true
call-numbers = C.call-numbers

-- A refused compile gives its number and place, with their cause, and does not touch the output buffer; nor does a refused write.
pub compile-refused : (text before : List ℕ) (number at : ℕ) (after : List ℕ) → Compiles text before (W.Refused number at) after → Answers text (length before) (refused number at) × (after ≡ before)
compile-refused = C.compile-refused

pub write-refused : (table : Table) (before : List ℕ) (answer : Result ℕ Refusal) (after : List ℕ) → Writes table before answer after → write_number answer ≢ 0 → after ≡ before
write-refused = C.write-refused

-- A refused machine call changes nothing.
pub call-refused : (m : Machine) (a : Ask) (x : Answer) (n : Machine) → Serves m a x n → Refuses x → n ≡ m
call-refused = C.call-refused

-- A fault stops the machine, all else as before that call; 40 names a task.
pub fault-stops : (m : Machine) (a : Ask) (x : Answer) (n : Machine) → Serves m a x n → Faults x → n ≡ stopped (number x) (late_in (means x).task) m
fault-stops = C.fault-stops

pub fault-names : (m : Machine) (a : Ask) (x : Answer) (n : Machine) → Serves m a x n → number x ≡ 40 → (task : ℕ) × (x ≡ ticking (Late task))
fault-names = C.fault-names

-- A stopped machine answers every call with 31.
pub stopped-refuses : (m : Machine) → m.standing.stopped ≡ true → (a : Ask) (x : Answer) (n : Machine) → Serves m a x n → (means x ≡ refusal 31) × (n ≡ m)
stopped-refuses = C.stopped-refuses

-- A refused start makes no machine: what stands in its place is blank and answers every call with 31. A start that faults leaves beginning values, stopped.
pub blank-refuses : (table : Table) (a : Ask) (x : Answer) (n : Machine) → Serves (blank_machine table) a x n → (means x ≡ refusal 31) × (n ≡ blank_machine table)
blank-refuses table = C.stopped-refuses (blank_machine table) refl

module _ (table : Table) (count : ℕ) (types words : List ℕ) (r : Ticked) (s : Started table count types words r) where
  pub start-refused : Refuses (ticking r.answer) → r.machine ≡ blank_machine table
  start-refused = B.start-refused table count types words r s

  pub start-faults : Faults (ticking r.answer) → r.machine ≡ stopped (number (ticking r.answer)) (late_in (means (ticking r.answer)).task) (new_machine table count)
  start-faults = B.start-faults table count types words r s

  -- 30: a table that the reader would never return; 32: readings of wrong count or type; else one reaction of the new machine.
  pub start-unreadable : (Readable table → ⊥) → means (ticking r.answer) ≡ refusal 30
  start-unreadable = B.start-unreadable table count types words r s

  pub start-unfit : Readable table → fits (M.reading_types (board_in table)) types words ≡ false → means (ticking r.answer) ≡ refusal 32
  start-unfit = B.start-unfit table count types words r s

  pub start-obeys : Readable table → fits (M.reading_types (board_in table)) types words ≡ true → r ≡ ticked_on table (M.reacted (board_in table) (fresh (board_in table) count) count words)
  start-obeys = B.start-obeys table count types words r s

-- Look shows the whole machine, stopped or not, and never refuses, so a call behind it is a call of the machine; the tasks out are counted from the word.
pub look-shows : (m shown : Machine) → Looks m shown → shown ≡ m
look-shows m shown looks = looks

pub out-counted : (m : Machine) (answer : ℕ) → CountsOut m answer → answer ≡ count_in m.standing.out
out-counted m answer counts = counts

-- ======== DEMAND 2

-- The compiler accepts exactly the modules that document 01 describes (`Accepts`: readable, no rule broken, code and file within their rooms),
pub accepts-only : (text before : List ℕ) (size : ℕ) (after : List ℕ) → Compiles text before (W.Written size) after → Accepts text (length before) (file_of (module_of text))
accepts-only = F.accepts-only

pub accepts-all : (text before : List ℕ) → Accepts text (length before) (file_of (module_of text)) → (answer : Compiled) (after : List ℕ) → Compiles text before answer after → answer ≡ W.Written (length (file_of (module_of text)))
accepts-all = F.accepts-all

-- and writes the one file it prescribes; the bytes behind it stay as they were.
pub one-file : (text before : List ℕ) (size : ℕ) (after : List ℕ) → Compiles text before (W.Written size) after → (take size after ≡ file_of (module_of text)) × (after ≡ file_of (module_of text) ++ drop size before)
one-file = F.one-file

-- Reading back what was written gives the same table,
pub reads-back : (text before : List ℕ) (size : ℕ) (after : List ℕ) (r : Reading) → Compiles text before (W.Written size) after → Reads (take size after) r → r ≡ record { answer = Read; table = struct_of (table_of (module_of text)) }
reads-back = F.reads-back

pub reads-written : (table : Table) (before : List ℕ) (size : ℕ) (after : List ℕ) (r : Reading) → Writes table before (Ok size) after → Reads (take size after) r → r ≡ record { answer = Read; table = table }
reads-written = F.reads-written

-- and writing what was read gives the same bytes.
pub writes-read : (bytes : List ℕ) (r : Reading) (before : List ℕ) (answer : Result ℕ Refusal) (after : List ℕ) → Bytes bytes → Reads bytes r → r.answer ≡ Read → length bytes ≤ length before → Writes r.table before answer after
    → (answer ≡ Ok (length bytes)) × (take (length bytes) after ≡ bytes)
writes-read = F.writes-read

-- `sound` tells the tables that the reader can return from all others.
pub sound-tells : (table : Table) (answer : Bool) → Judges table answer → (answer ≡ true → Readable table) × (Readable table → answer ≡ true)
sound-tells = B.judges-readable

-- The machine obeys each instruction as the report's table says. A due tick is one reaction of the board, as a start is (`start-obeys`):
pub obeys : (m : Machine) (count : ℕ) (types words : List ℕ) (x : Reaction) (n : Machine) → Serves m (tick count types words) (ticking x) n
    → m.standing.stopped ≡ false → fits (C.reading_types_in m) types words ≡ true → elapsed m.standing.clock count ≡ m.standing.remaining
    → ◌≡◌ {A = Ticked} (record { answer = x; machine = n }) (ticked_on m.table (M.reacted (board_in m.table) (state_in m) count words))
obeys = C.obeys

-- with no future and nothing counted, from the place at which the machine stands, with at most as many instructions as the code holds.
pub reacts-from : (b : Board) (m : M.State) (count : ℕ) (words : List ℕ)
    → let run = goes b m.aside (length b.code) (record { pc = m.pc; mode = m.mode; future = none; tally = no_tally; store = M.sensed words m.store }) in
    M.reacted b m count words ≡ M.came_to m count run.tally run.res
reacts-from = Op.reacted-begins

module _ (b : Board) (aside : List ℕ) where
  -- 41: no return after as many instructions as the code holds, or running past its end.
  pub ends-budget : (p : Point) → goes b aside 0 p ≡ fail wild
  ends-budget = Op.obeys-no-more b aside

  pub ends-past : (most : ℕ) (p : Point) → length b.code ≤ p.pc → goes b aside (suc most) p ≡ fail wild
  ends-past = Op.obeys-past-end b aside

  module _ (most : ℕ) (p : Point) where
    -- 0 nop
    pub obeys-nop : (marker : ℕ) → At b p (nop marker) → goes b aside (suc most) p ≡ goes b aside most (onward p (step p.tally) p.store)
    obeys-nop = Op.obeys-nop b aside most p

    -- 1 future; a second one is 42
    pub obeys-future : (pc delay : ℕ) → At b p (future pc delay)
        → (p.future ≡ none → goes b aside (suc most) p ≡ goes b aside most (record { pc = p.pc + 1; mode = p.mode; future = some (record { pc = pc; delay = delay }); tally = step p.tally; store = p.store }))
        × ((earlier : Future) → p.future ≡ some earlier → goes b aside (suc most) p ≡ fail astray)
    obeys-future = Op.obeys-future b aside most p

    -- 2 call: an update; the inputs of a release; a termination (of a task that is not out, finished, or 40)
    pub obeys-update : (source target : ℕ) → Calls b p (updates source target)
        → goes b aside (suc most) p ≡ goes b aside most (onward p (counted 0 0 p.tally) (with_ports p.store (set p.store.ports target (get_or p.store.ports source 0))))
    obeys-update = Op.obeys-call-update b aside most p

    pub obeys-inputs : (task : ℕ) (sources : List ℕ) → Calls b p (releases task sources)
        → goes b aside (suc most) p ≡ goes b aside most (onward p (counted 0 0 p.tally) (with_ports p.store (copy_to (lot_of b aside task).inputs sources p.store.ports)))
    obeys-inputs = Op.obeys-call-inputs b aside most p

    pub obeys-terminate : (task : ℕ) → Calls b p (terminates task)
        → (has p.store.out task ≡ false → goes b aside (suc most) p ≡ goes b aside most (onward p (counted 0 0 p.tally) p.store))
        × ((has p.store.out task ≡ true → has p.store.finished task ≡ true
        → goes b aside (suc most) p
        ≡ goes b aside most (onward p (counted 0 1 p.tally) (record {
          ports = place (lot_of b aside task).outputs (part aside (task * port_room) (lot_of b aside task).results) p.store.ports;
          out = parted p.store.out task;
          waiting = p.store.waiting;
          finished = parted p.store.finished task;
        })))
        × (has p.store.out task ≡ true → has p.store.finished task ≡ false → goes b aside (suc most) p ≡ fail (late task)))
    obeys-terminate = Op.obeys-call-terminate b aside most p

    -- 3 release; of a task that is out it is 43
    pub obeys-release : (task : ℕ) → At b p (release task)
        → (has p.store.out task ≡ false
        → goes b aside (suc most) p
        ≡ goes b aside most (onward p (counted 1 0 p.tally) (record { ports = p.store.ports; out = joined p.store.out task; waiting = joined p.store.waiting task; finished = p.store.finished })))
        × (has p.store.out task ≡ true → goes b aside (suc most) p ≡ fail clash)
    obeys-release = Op.obeys-release b aside most p

    -- 4 if: the guard of the ports as they are
    pub obeys-if : (guard other : ℕ) → At b p (iff guard other)
        → goes b aside (suc most) p
        ≡ goes b aside most (record { pc = cond (holds p.store.ports (get_or b.guards guard no_guard)) (p.pc + 1) other; mode = p.mode; future = p.future; tally = step p.tally; store = p.store })
    obeys-if = Op.obeys-if b aside most p

    -- 5 jump
    pub obeys-jump : (pc : ℕ) → At b p (jump pc) → goes b aside (suc most) p ≡ goes b aside most (record { pc = pc; mode = p.mode; future = p.future; tally = step p.tally; store = p.store })
    obeys-jump = Op.obeys-jump b aside most p

    -- 6 return; with no future it is 42
    pub obeys-return : At b p return
        → ((noted : Future) → p.future ≡ some noted → goes b aside (suc most) p ≡ record { res = ok (record { mode = p.mode; future = noted; store = p.store }); tally = step p.tally })
        × (p.future ≡ none → goes b aside (suc most) p ≡ fail astray)
    obeys-return = Op.obeys-return b aside most p

    -- 7 switch
    pub obeys-switch : (mode : ℕ) → At b p (switch mode) → goes b aside (suc most) p ≡ goes b aside most (record { pc = get_or b.begins mode 0; mode = mode; future = p.future; tally = step p.tally; store = p.store })
    obeys-switch = Op.obeys-switch b aside most p

-- ======== DEMAND 3

-- Every text that was compiled can be launched, with any readings that fit, and any calls can be made: the theorems below are not empty.
pub can-launch : (text before : List ℕ) (size : ℕ) (after : List ℕ) → Compiles text before (W.Written size) after → (count : ℕ) (types words : List ℕ) → fits (reading_types (module_of text)) types words ≡ true
    → (l : Launch) × Launched text count types words l
can-launch = L.can-launch

pub can-run : (calls : List Ask) (m : Machine) → (answers : List Answer) × ((n : Machine) × Runs m calls answers n)
can-run = L.can-run

-- What holds behind every list of calls holds behind each call of a run.
pub midway : (calls later : List Ask) (m : Machine) (answers : List Answer) (n : Machine) → Runs m (calls ++ later) answers n → Midway m calls later answers n
midway = L.midway

-- Start any accepted module:
module _ (l : Launch) where
  -- the start is a reaction (no fault), with the definition's count of instructions; the machine then shows what the rules say of it, and those wait whom the rules release.
  pub start-reacts : l.begun.answer ≡ Obeyed (steps_from (module_in l) (new_machine l.reading.table l.count) l.words)
  start-reacts = N.start-counts l

  pub start-shows : Same (module_in l) l.begun.machine (first l)
  start-shows = T.start-shows l

  pub start-releases : (j : ℕ) → among j (first l).place.released ≡ has l.begun.machine.standing.waiting j
  start-releases = T.start-releases l

  -- and call the machine in any order.
  module _ (calls : List Ask) (answers : List Answer) (m : Machine) (run : Runs l.begun.machine calls answers m) where
    -- If every released task is finished before the tick that ends its slot, no fault ever comes.
    pub no-fault : InTime l calls answers → Each (λ x. Faults x → ⊥) answers × (m.standing.stopped ≡ false)
    no-fault = T.no-fault l calls answers m run

    -- (In time, on calls and answers, is `Prompt` of the rules.)
    pub in-time-is : (InTime l calls answers → Prompt (module_in l) calls (first l)) × (Prompt (module_in l) calls (first l) → InTime l calls answers)
    in-time-is = T.in-time-is l calls answers m run

    -- 41, 42 and 43 never come, in time or late.
    pub no-other-fault : Each (λ x. number x ≤ 40) answers
    no-other-fault = T.no-other-fault l calls answers m run

    -- After every tick, and every other call, the mode, outputs, actuators and tasks are exactly those of the timing rules, and so is every answer.
    pub shows : Same (module_in l) m (rules l calls)
    shows = T.shows l calls answers m run

    pub answers-are : map reply_to answers ≡ map some (replies (module_in l) calls (first l))
    answers-are = T.answers-are l calls answers m run

    -- Releases so far equal terminations plus tasks out.
    pub count_law : releases_so_far l calls answers ≡ terminations_so_far l calls answers + count_in m.standing.out
    count_law = N.count_kept l calls answers m run

    module _ (a : Ask) (x : Answer) (n : Machine) (call : Serves m a x n) where
      -- The tasks that the rules release at a reaction are those that wait now and did not before.
      pub released : (steps : ℕ) → x ≡ ticking (Obeyed steps) → (j : ℕ) → among j (ask (module_in l) a (rules l calls)).view.place.released ≡ (has n.standing.waiting j && not (has m.standing.waiting j))
      released = T.releases l calls answers m run a x n call

      -- No result shows before its slot ends: an output changes only then, to the finished results;
      pub outputs : (task i : ℕ) → i < output_count (module_in l) task
          → (word (module_in l) n (outputs_of (module_in l) task + i) ≡ word (module_in l) m (outputs_of (module_in l) task + i)) ⊎ HandsOver (module_in l) (rules l calls) m x n task i
      outputs = P.output-changes l calls answers m run a x n call

      -- an actuator only at an instant of one of its updates, to the source's word; a sensor only at a due tick, to its reading; an input only at a release of its task;
      pub actuators : (i : ℕ) → ActuatorPort (module_in l) i → (word (module_in l) n i ≡ word (module_in l) m i) ⊎ Sets (module_in l) (rules l calls) x n i
      actuators = P.actuator-changes l calls answers m run a x n call

      pub sensors : (i : ℕ) → SensorPort (module_in l) i → (word (module_in l) n i ≡ word (module_in l) m i) ⊎ Senses (module_in l) a x n i
      sensors = P.sensor-changes l calls answers m run a x n call

      pub inputs : (task i : ℕ) → InputPort (module_in l) task i → (word (module_in l) n i ≡ word (module_in l) m i) ⊎ Fills (module_in l) (rules l calls) a x task
      inputs = P.input-changes l calls answers m run a x n call

      -- between reactions no port, no task out and no mode changes.
      pub between : ((steps : ℕ) → x ≢ ticking (Obeyed steps)) → Rests m n
      between = P.between l calls answers m run a x n call

      -- 40 comes for a late task alone: the first in text order of which a slot ends and that was released and not finished since.
      pub late-only : (task : ℕ) → means x ≡ meaning 40 0 (some task) → first_owed (ending_next (module_in l) (rules l calls)) (owed_after l calls answers) ≡ some task
      late-only = T.late-only l calls answers m run a x n call

    -- Unfinished slots show nowhere: calls that differ only in the results of some tasks, of which no slot ends at these calls, are answered alike and leave the same mode and ports.
    pub unseen : (tasks : ℕ → Bool) (one other : List Ask) (answers₁ answers₂ : List Answer) (n₁ n₂ : Machine) → Runs m one answers₁ n₁ → Runs m other answers₂ n₂
        → Vary (module_in l) tasks one other → Calm (module_in l) tasks one (rules l calls) → Alike (module_in l) answers₁ n₁ answers₂ n₂
    unseen = T.unseen l calls answers m run

    module _ (count : ℕ) (types words : List ℕ) (x : Answer) (n : Machine) (call : Serves m (tick count types words) x n) where
      -- If a task is late, the machine stops at that very instant and names the first late task;
      pub late-named : (task : ℕ) → DueNow (module_in l) (state_in m) count types words → first_owed (ending_next (module_in l) (rules l calls)) (owed_after l calls answers) ≡ some task
          → (means x ≡ meaning 40 0 (some task)) × (n ≡ stopped 40 task m)
      late-named = T.late-named l calls answers m run count types words x n call

      -- if none is, a due tick is a reaction. Every reaction answers with the definition's count of instructions.
      pub due-reacts : DueNow (module_in l) (state_in m) count types words → first_owed (ending_next (module_in l) (rules l calls)) (owed_after l calls answers) ≡ none → x ≡ ticking (Obeyed (steps_from (module_in l) m words))
      due-reacts = N.due-reacts l calls answers m run count types words x n call

      pub instructions : (steps : ℕ) → x ≡ ticking (Obeyed steps) → steps ≡ steps_from (module_in l) m words
      instructions = N.tick-counts l calls answers m run count types words x n call

      -- A missed instant is a refusal, not a fault: nothing changes, so a later call with the due count is still served.
      pub missed : m.standing.stopped ≡ false → fits (reading_types (module_in l)) types words ≡ true → m.standing.remaining < elapsed m.standing.clock count → (means x ≡ refusal 33) × (n ≡ m)
      missed = T.missed l calls answers m run count types words x n call

  -- The order in which tasks are handed out and finished between due ticks does not show (document 02, R-13).
  pub order-hidden : (readings : ℕ → List ℕ) (results : ℕ → ℕ → List ℕ) (one other : List Ask) (answers₁ answers₂ : List Answer) (n₁ n₂ : Machine)
      → (r₁ : Runs l.begun.machine one answers₁ n₁) (r₂ : Runs l.begun.machine other answers₂ n₂)
      → Keeps (module_in l) readings results one (first l) 0 (λ j. 0) → Keeps (module_in l) readings results other (first l) 0 (λ j. 0) → dues (module_in l) one (first l) ≡ dues (module_in l) other (first l)
      → (seen (module_in l) n₁ ≡ seen (module_in l) n₂) × (log (module_in l) one answers₁ l.begun.machine n₁ r₁ ≡ log (module_in l) other answers₂ l.begun.machine n₂ r₂)
  order-hidden = O.order-hidden l

-- The count law also holds of every table that the reader returns, started with readings that fit: releases and terminations by the instructions obeyed (machine, Counts).
pub count-law-any : (table : Table) (count : ℕ) (types words : List ℕ) (r : Ticked) → Started table count types words r → Readable table → fits (M.reading_types (board_in table)) types words ≡ true
    → (calls : List Ask) (answers : List Answer) (n : Machine) → Runs r.machine calls answers n
    → let account = history (board_in table) (opened (board_in table) count words) calls in account.releases ≡ account.terminations + count_in n.standing.out
count-law-any = N.count-any

-- Later readings enter only later, on any machine: those of a tick that is not due are checked and not taken.
pub deaf : (m : Machine) (count : ℕ) (types words types₁ words₁ : List ℕ) (x y : Answer) (n k : Machine) → Serves m (tick count types words) x n → Serves m (tick count types₁ words₁) y k
    → fits (C.reading_types_in m) types words ≡ fits (C.reading_types_in m) types₁ words₁ → elapsed m.standing.clock count ≢ m.standing.remaining → (y ≡ x) × (k ≡ n)
deaf = C.deaf
