-- Every call, computed, on a table of two modes, two tasks and two guards: each answer by its number, instructions and task, and all that the machine then shows.
use Rattle.std.specs.Prelude.{ℕ, suc, ◌^◌, ◌≡◌, refl, Bool, true, cond, ◌&&◌, List, [], ◌∷◌, length, take, T, eqb}
use Rattle.std.proofs.Math.Option.{Option, none, some}
use Rattle.model.specs.Bytes.{bytes, same}
use Rattle.model.specs.Values.{int, boolean, holds}
use Rattle.model.specs.Clock.{fits}
use Rattle.model.specs.Modules.{port_types, port_starts}
use Rattle.model.specs.Instructions.{Instr, nop, future, call, release, iff, jump, return, switch, updates, releases, terminates}
use Rattle.model.specs.declared.Value.TheVariants.{Flag}
use Rattle.model.specs.declared.Operand.TheVariants.{Port, Fixed}
use Rattle.file.specs.Tables.{port, fixed, Table}
use Rattle.file.specs.Opened.{opened}
use Rattle.machine.specs.Words.{lowest_from, count_from}
use Rattle.machine.specs.Boards.{operand_of, board_of}
use Rattle.machine.specs.Instructions.{exec}
use Rattle.machine.specs.Store.{part, reaction}
use Rattle.machine.specs.Calls as C
use Rattle.machine.specs.Calls.{State, Ticked, reacted, next_task, with_words, tasks_out}
use Rattle.machine.specs.Asks.{Ask, tick, next, finish, means, asks}
use Rattle.machine.specs.Starts.{start}
use Rattle.machine.specs.Answers.{Meaning, reaction_means}

-- Ports: door, bikes; sign; two inputs of count and its o; the input of watch, its p and q. Mode 1 starts.
station : List Instr → Table
station code =
    record {
      name = bytes "M";
      sensors = record { name = bytes "door"; type = boolean; getter = bytes "g" } ∷ record { name = bytes "bikes"; type = int; getter = bytes "g" } ∷ [];
      actuators = record { name = bytes "sign"; type = int; start = 5; setter = bytes "f" } ∷ [];
      tasks = record { name = bytes "count"; function = bytes "c"; inputs = int ∷ int ∷ []; outputs = record { name = bytes "o"; type = boolean; start = 0 } ∷ [] }
          ∷ record { name = bytes "watch"; function = bytes "w"; inputs = boolean ∷ []; outputs = record { name = bytes "p"; type = int; start = 11 } ∷ record { name = bytes "q"; type = int; start = 12 } ∷ [] }
          ∷ [];
      drivers = terminates 0 ∷ terminates 1 ∷ releases 0 (1 ∷ 7 ∷ []) ∷ releases 1 (0 ∷ []) ∷ updates 7 2 ∷ [];
      guards = record { function = bytes "less"; arguments = port 1 ∷ fixed int 4 ∷ [] } ∷ record { function = bytes "isFalse"; arguments = port 0 ∷ [] } ∷ [];
      modes = record { name = bytes "a"; start = 0; period = 50; begin = 0 } ∷ record { name = bytes "b"; start = 1; period = 100; begin = 4 } ∷ [];
      code = code;
    }

-- mode a releases count; mode b releases watch if bikes are less than 4, hands p to sign, and switches to mode a if the door is false
table : Table
table =
    station
    (call 2 ∷ release 0 ∷ future 16 50 ∷ return
    ∷ iff 0 7 ∷ call 3 ∷ release 1 ∷ future 9 100 ∷ return
    ∷ call 1 ∷ nop 1 ∷ call 4 ∷ nop 2 ∷ iff 1 15 ∷ switch 0 ∷ jump 4
    ∷ call 0 ∷ jump 0 ∷ [])

-- ---- what is seen

-- Number, instructions and task (counted from 1; 0: none) of an answer; clock, remaining time, mode, pc, tasks out, waiting and finished, stopped, fault and late task; ports.
record Sight : Type 0 where
  answer : List ℕ
  machine : List ℕ
  ports : List ℕ

named : Option ℕ → ℕ
named none = 0
named (some task) = suc task

sees : Meaning → State → Sight → Bool
sees a m sight =
    same (a.number ∷ a.instructions ∷ named a.task ∷ []) sight.answer
    && (same
    (m.clock ∷ m.remaining ∷ m.mode ∷ m.pc ∷ m.store.out ∷ m.store.waiting ∷ m.store.finished ∷ cond m.stopped 1 0 ∷ m.fault ∷ m.late ∷ [])
    sight.machine
    && same (take (length sight.ports) m.store.ports) sight.ports)

record Step : Type 0 where
  ask : Ask
  sight : Sight

asked : Ask → List ℕ → List ℕ → List ℕ → Step
asked a answer machine ports = record { ask = a; sight = record { answer = answer; machine = machine; ports = ports } }

-- steps from a state on
play : State → List Step → Bool
play m [] = true
play m (step ∷ steps) = let r = asks (board_of table) step.ask m in sees (means r.answer) r.state step.sight && play r.state steps

-- a start at count 10 with these readings
starts : Table → ℕ → ℕ → Ticked
starts t door bikes = start t 10 (boolean ∷ int ∷ []) (door ∷ bikes ∷ [])

began : Table → ℕ → ℕ → Sight → Bool
began t door bikes sight = let r = starts t door bikes in sees (reaction_means r.answer) r.state sight

ticks : ℕ → ℕ → ℕ → Ask
ticks count door bikes = tick count (boolean ∷ int ∷ []) (door ∷ bikes ∷ [])

-- ---- the cases

first : List ℕ
first = 1 ∷ 3 ∷ 5 ∷ 0 ∷ 0 ∷ 0 ∷ 1 ∷ 11 ∷ 12 ∷ []

second : List ℕ
second = 0 ∷ 9 ∷ 21 ∷ 9 ∷ 21 ∷ 0 ∷ 1 ∷ 21 ∷ 22 ∷ []

-- the guard holds: watch is out; all of it in time, then count late: fault 40 names task 0, and every call behind it is 31
in-time-then-late : T (
    began table 1 3 (record { answer = 0 ∷ 5 ∷ 0 ∷ []; machine = 10 ∷ 100 ∷ 1 ∷ 9 ∷ 2 ∷ 2 ∷ 0 ∷ 0 ∷ 0 ∷ 0 ∷ []; ports = first })
    && play (starts table 1 3).state (
    asked (finish 1 (int ∷ int ∷ []) (21 ∷ 22 ∷ [])) (34 ∷ 0 ∷ 0 ∷ []) (10 ∷ 100 ∷ 1 ∷ 9 ∷ 2 ∷ 2 ∷ 0 ∷ 0 ∷ 0 ∷ 0 ∷ []) first
    ∷ asked next (0 ∷ 0 ∷ 2 ∷ []) (10 ∷ 100 ∷ 1 ∷ 9 ∷ 2 ∷ 0 ∷ 0 ∷ 0 ∷ 0 ∷ 0 ∷ []) first
    ∷ asked next (0 ∷ 0 ∷ 0 ∷ []) (10 ∷ 100 ∷ 1 ∷ 9 ∷ 2 ∷ 0 ∷ 0 ∷ 0 ∷ 0 ∷ 0 ∷ []) first
    ∷ asked (finish 0 (boolean ∷ []) (1 ∷ [])) (34 ∷ 0 ∷ 0 ∷ []) (10 ∷ 100 ∷ 1 ∷ 9 ∷ 2 ∷ 0 ∷ 0 ∷ 0 ∷ 0 ∷ 0 ∷ []) first
    ∷ asked (finish 1 (boolean ∷ []) (1 ∷ [])) (35 ∷ 0 ∷ 0 ∷ []) (10 ∷ 100 ∷ 1 ∷ 9 ∷ 2 ∷ 0 ∷ 0 ∷ 0 ∷ 0 ∷ 0 ∷ []) first
    ∷ asked (finish 1 (int ∷ int ∷ []) (21 ∷ 22 ∷ [])) (0 ∷ 0 ∷ 0 ∷ []) (10 ∷ 100 ∷ 1 ∷ 9 ∷ 2 ∷ 0 ∷ 2 ∷ 0 ∷ 0 ∷ 0 ∷ []) first
    ∷ asked (finish 1 (int ∷ int ∷ []) (23 ∷ 24 ∷ [])) (34 ∷ 0 ∷ 0 ∷ []) (10 ∷ 100 ∷ 1 ∷ 9 ∷ 2 ∷ 0 ∷ 2 ∷ 0 ∷ 0 ∷ 0 ∷ []) first
    ∷ asked (tick 40 (int ∷ boolean ∷ []) (0 ∷ 0 ∷ [])) (32 ∷ 0 ∷ 0 ∷ []) (10 ∷ 100 ∷ 1 ∷ 9 ∷ 2 ∷ 0 ∷ 2 ∷ 0 ∷ 0 ∷ 0 ∷ []) first
    ∷ asked (ticks 40 0 8) (0 ∷ 0 ∷ 0 ∷ []) (40 ∷ 70 ∷ 1 ∷ 9 ∷ 2 ∷ 0 ∷ 2 ∷ 0 ∷ 0 ∷ 0 ∷ []) first
    ∷ asked (ticks 60 0 8) (0 ∷ 0 ∷ 0 ∷ []) (60 ∷ 50 ∷ 1 ∷ 9 ∷ 2 ∷ 0 ∷ 2 ∷ 0 ∷ 0 ∷ 0 ∷ []) first
    ∷ asked (ticks 111 0 9) (33 ∷ 0 ∷ 0 ∷ []) (60 ∷ 50 ∷ 1 ∷ 9 ∷ 2 ∷ 0 ∷ 2 ∷ 0 ∷ 0 ∷ 0 ∷ []) first
    ∷ asked (ticks 110 0 9) (0 ∷ 10 ∷ 0 ∷ []) (110 ∷ 50 ∷ 0 ∷ 16 ∷ 1 ∷ 1 ∷ 0 ∷ 0 ∷ 0 ∷ 0 ∷ []) second
    ∷ asked next (0 ∷ 0 ∷ 1 ∷ []) (110 ∷ 50 ∷ 0 ∷ 16 ∷ 1 ∷ 0 ∷ 0 ∷ 0 ∷ 0 ∷ 0 ∷ []) second
    ∷ asked (ticks 160 1 2) (40 ∷ 0 ∷ 1 ∷ []) (110 ∷ 50 ∷ 0 ∷ 16 ∷ 1 ∷ 0 ∷ 0 ∷ 1 ∷ 40 ∷ 0 ∷ []) second
    ∷ asked (ticks 160 1 2) (31 ∷ 0 ∷ 0 ∷ []) (110 ∷ 50 ∷ 0 ∷ 16 ∷ 1 ∷ 0 ∷ 0 ∷ 1 ∷ 40 ∷ 0 ∷ []) second
    ∷ asked next (31 ∷ 0 ∷ 0 ∷ []) (110 ∷ 50 ∷ 0 ∷ 16 ∷ 1 ∷ 0 ∷ 0 ∷ 1 ∷ 40 ∷ 0 ∷ []) second
    ∷ asked (finish 0 (boolean ∷ []) (1 ∷ [])) (31 ∷ 0 ∷ 0 ∷ []) (110 ∷ 50 ∷ 0 ∷ 16 ∷ 1 ∷ 0 ∷ 0 ∷ 1 ∷ 40 ∷ 0 ∷ []) second ∷ [])
    )
unfolding opened same station table sees named asked play starts began ticks first second port_types port_starts fits holds board_of lowest_from exec reaction reacted C.tick next_task C.finish start
in-time-then-late = tt

-- watch, released and not handed out: fault 40 names task 1, and all else is as before the call
late-task-named : T (play (starts table 1 3).state (asked (ticks 110 0 9) (40 ∷ 0 ∷ 2 ∷ []) (10 ∷ 100 ∷ 1 ∷ 9 ∷ 2 ∷ 2 ∷ 0 ∷ 1 ∷ 40 ∷ 1 ∷ []) first ∷ []))
unfolding opened same station table sees named asked play starts ticks first port_types port_starts fits holds board_of exec reaction reacted C.tick start
late-task-named = tt

-- neither guard holds: no task is out, none is terminated, and mode b goes on
guards-fail : T (
    began table 1 7 (record { answer = 0 ∷ 3 ∷ 0 ∷ []; machine = 10 ∷ 100 ∷ 1 ∷ 9 ∷ 0 ∷ 0 ∷ 0 ∷ 0 ∷ 0 ∷ 0 ∷ []; ports = 1 ∷ 7 ∷ 5 ∷ 0 ∷ 0 ∷ 0 ∷ 0 ∷ 11 ∷ 12 ∷ [] })
    && play (starts table 1 7).state (asked (ticks 110 1 4) (0 ∷ 9 ∷ 0 ∷ []) (110 ∷ 100 ∷ 1 ∷ 9 ∷ 0 ∷ 0 ∷ 0 ∷ 0 ∷ 0 ∷ 0 ∷ []) (1 ∷ 4 ∷ 11 ∷ 0 ∷ 0 ∷ 0 ∷ 0 ∷ 11 ∷ 12 ∷ []) ∷ [])
    )
unfolding opened same station table sees named asked play starts began ticks port_types port_starts fits holds board_of exec reaction reacted C.tick start
guards-fail = tt

-- a start that faults: stopped, with beginning values, the count given and 0 remaining; one that is refused: no machine, 30 before 32
starts-that-fail : T (
    began (station (return ∷ return ∷ return ∷ return ∷ release 1 ∷ release 1 ∷ [])) 1 3
    (record { answer = 43 ∷ 0 ∷ 0 ∷ []; machine = 10 ∷ 0 ∷ 1 ∷ 4 ∷ 0 ∷ 0 ∷ 0 ∷ 1 ∷ 43 ∷ 0 ∷ []; ports = 0 ∷ 0 ∷ 5 ∷ 0 ∷ 0 ∷ 0 ∷ 0 ∷ 11 ∷ 12 ∷ [] })
    && (began table 2 3 (record { answer = 32 ∷ 0 ∷ 0 ∷ []; machine = 0 ∷ 0 ∷ 0 ∷ 0 ∷ 0 ∷ 0 ∷ 0 ∷ 1 ∷ 0 ∷ 0 ∷ []; ports = 0 ∷ 0 ∷ 0 ∷ 0 ∷ [] })
    && began (station []) 2 3 (record { answer = 30 ∷ 0 ∷ 0 ∷ []; machine = 0 ∷ 0 ∷ 0 ∷ 0 ∷ 0 ∷ 0 ∷ 0 ∷ 1 ∷ 0 ∷ 0 ∷ []; ports = 0 ∷ 0 ∷ 0 ∷ 0 ∷ [] }))
    )
unfolding opened same station table sees named starts began port_types port_starts fits holds board_of exec reaction reacted start
starts-that-fail = tt

-- a fixed argument is an operand of its type
operands : (operand_of (fixed boolean 1) ≡ Fixed (Flag true)) × (operand_of (port 7) ≡ Port 7)
operands = (refl, refl)

-- a number that is no task is not handed out, whatever the words hold
no-task : T (
    let m = (starts table 1 3).state in
    eqb (means (asks (board_of table) (finish 40 [] []) (with_words m (record { ports = m.store.ports; out = 2 ^ 40; waiting = 0; finished = 0 }) m.aside)).answer).number 34
    )
unfolding opened station table starts port_types port_starts fits holds board_of exec reaction reacted C.finish start
no-task = tt

-- the rooms of ports and results aside, and of what the board lists; past the end of words stands 0
rooms : T (
    let m = (starts table 1 3).state in
    let b = board_of table in
    same (length m.store.ports ∷ length m.aside ∷ length b.types ∷ length b.drivers ∷ length b.guards ∷ length b.begins ∷ length b.lots ∷ [])
    (320 ∷ 256 ∷ 320 ∷ 288 ∷ 256 ∷ 8 ∷ 32 ∷ [])
    && (same (part (6 ∷ 7 ∷ []) 1 2) (7 ∷ 0 ∷ []) && eqb (tasks_out m) 1)
    )
unfolding opened same station table starts port_types port_starts fits holds board_of count_from exec reaction reacted start
rooms = tt
