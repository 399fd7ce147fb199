-- The machine on tables written out, computed: the dock of the phantom bikes, and code that goes wrong.
use Rattle.std.specs.Prelude.{ℕ, Bool, ◌&&◌, List, [], ◌∷◌, length, take, T, eqb}
use Rattle.model.specs.Bytes.{bytes, same}
use Rattle.model.specs.Values.{int, holds}
use Rattle.model.specs.Clock.{fits}
use Rattle.model.specs.Modules.{port_types, port_starts}
use Rattle.model.specs.Instructions.{Instr, nop, future, call, release, jump, return, updates, releases, terminates}
use Rattle.file.specs.Tables.{Table}
use Rattle.file.specs.Opened.{opened}
use Rattle.machine.specs.Words.{lowest_from}
use Rattle.machine.specs.Boards.{board_of}
use Rattle.machine.specs.Instructions.{exec}
use Rattle.machine.specs.Store.{reaction}
use Rattle.machine.specs.Calls.{State, reacted, tick, next_task, finish}
use Rattle.machine.specs.Starts.{start}
use Rattle.machine.specs.Answers.{Meaning, reaction_means, finishing_means}

-- sensor bikes, actuator sign, task count with an input and an output o := 10; this code
dock : List Instr → Table
dock code =
    record {
      name = bytes "M";
      sensors = record { name = bytes "bikes"; type = int; getter = bytes "g" } ∷ [];
      actuators = record { name = bytes "sign"; type = int; start = 0; setter = bytes "f" } ∷ [];
      tasks = record { name = bytes "count"; function = bytes "c"; inputs = int ∷ []; outputs = record { name = bytes "o"; type = int; start = 10 } ∷ [] } ∷ [];
      drivers = terminates 0 ∷ updates 3 1 ∷ releases 0 (0 ∷ []) ∷ [];
      guards = [];
      modes = record { name = bytes "m"; start = 1; period = 5000; begin = 0 } ∷ [];
      code = code;
    }

bikes : Table
bikes = dock (call 2 ∷ release 0 ∷ future 4 5000 ∷ return ∷ call 0 ∷ nop 1 ∷ call 1 ∷ nop 2 ∷ jump 0 ∷ [])

-- number and instructions of an answer, what remains, the ports
sees : Meaning → State → ℕ → ℕ → ℕ → List ℕ → Bool
sees answer m number instructions remaining ports =
    (eqb answer.number number && eqb answer.instructions instructions)
    && (eqb m.remaining remaining && same (take (length ports) m.store.ports) ports)

begun : State
begun = (start bikes 4294965000 (int ∷ []) (7 ∷ [])).state

handed : State
handed = (next_task begun).state

finished : State
finished = (finish (board_of bikes) handed 0 (int ∷ []) (8 ∷ [])).state

in-time : T (
    (let r = start bikes 4294965000 (int ∷ []) (7 ∷ []) in sees (reaction_means r.answer) r.state 0 4 5000 (7 ∷ 0 ∷ 7 ∷ 10 ∷ []))
    && ((let r = finish (board_of bikes) handed 0 (int ∷ []) (8 ∷ []) in sees (finishing_means r.answer) r.state 0 0 5000 (7 ∷ 0 ∷ 7 ∷ 10 ∷ []))
    && ((let r = tick (board_of bikes) finished 4294967000 (int ∷ []) (1 ∷ []) in sees (reaction_means r.answer) r.state 0 0 3000 (7 ∷ 0 ∷ 7 ∷ 10 ∷ []))
    && ((let r = tick (board_of bikes) finished 2704 (int ∷ []) (9 ∷ []) in sees (reaction_means r.answer) r.state 0 9 5000 (9 ∷ 8 ∷ 9 ∷ 8 ∷ []))
    && (let r = tick (board_of bikes) finished 2705 (int ∷ []) (9 ∷ []) in sees (reaction_means r.answer) r.state 33 0 5000 (7 ∷ 0 ∷ 7 ∷ 10 ∷ [])))))
    )
unfolding opened same dock bikes sees begun handed finished port_types port_starts fits holds board_of lowest_from exec reaction reacted tick next_task finish start
in-time = tt

-- without the finish: fault 40, nothing shows
late : T (let r = tick (board_of bikes) handed 2704 (int ∷ []) (9 ∷ []) in sees (reaction_means r.answer) r.state 40 0 5000 (7 ∷ 0 ∷ 7 ∷ 10 ∷ []))
unfolding opened same dock bikes sees begun handed port_types port_starts fits holds board_of lowest_from exec reaction reacted tick next_task finish start
late = tt

-- 41 no return after as many instructions as the code holds; the last may be a return; 42; 43; a table that no reader returns
starts_with : List Instr → ℕ
starts_with code = (reaction_means (start (dock code) 0 (int ∷ []) (7 ∷ [])).answer).number

faults : T (
    eqb (starts_with (future 0 1 ∷ jump 0 ∷ [])) 41
    && (eqb (starts_with (future 0 1 ∷ jump 2 ∷ return ∷ [])) 0
    && (eqb (starts_with (nop 1 ∷ [])) 41
    && (eqb (starts_with (return ∷ [])) 42
    && (eqb (starts_with (future 0 1 ∷ future 0 2 ∷ return ∷ [])) 42
    && (eqb (starts_with (release 0 ∷ release 0 ∷ return ∷ [])) 43
    && (eqb (starts_with (call 0 ∷ future 0 1 ∷ return ∷ [])) 0
    && eqb (starts_with (call 3 ∷ [])) 30))))))
    )
unfolding opened same dock starts_with port_types port_starts fits holds board_of exec reaction reacted start
faults = tt
