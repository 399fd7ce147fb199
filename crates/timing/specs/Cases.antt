-- Modules written out, and what the rules and the code make of them: computed.
use Rattle.std.specs.Prelude.{◌≡◌, refl, true, false, ◌&&◌, List, [], ◌∷◌, T, eqb}
use Rattle.std.proofs.Math.Option.{none, some}
use Rattle.model.specs.Bytes.{bytes, same}
use Rattle.model.specs.declared.Operand.TheVariants.{Port}
use Rattle.model.specs.declared.Function.TheVariants.{IsTrue}
use Rattle.model.specs.Values.{int, boolean, holds}
use Rattle.model.specs.Modules.{Module, Mode, port_starts}
use Rattle.model.specs.Clock.{fits}
use Rattle.model.specs.Instructions.{nop, future, call, release, iff, jump, return, switch, updates, releases, terminates}
use Rattle.timing.specs.Slots.{spans}
use Rattle.timing.specs.Rules.{no_mode, next_instant, entered, instant}
use Rattle.timing.specs.Calls.{Ask, tick, next, finish, waits, reacted, refused, fell, given, taken, start_from, ask, started, replies, comes}
use Rattle.timing.specs.Code.{drivers_of, code_of, begins_of, instants_of, instants_from, front, back, later_blocks, mode_code, code_from, begins_from}

-- bench case 5: period 10ms, task 2, update 5
five : Mode
five =
    record {
      name = bytes "m";
      start = true;
      period = 10000;
      calls = record { frequency = 2; guard = none; what = record { task = 0; sources = [] } } ∷ [];
      updates = record { frequency = 5; guard = none; what = record { source = 1; target = 0 } } ∷ [];
      switches = [];
    }

blocks-of-five : instants_of five ≡ 2000 ∷ 4000 ∷ 5000 ∷ 6000 ∷ 8000 ∷ []
unfolding five instants_of instants_from next_instant spans
blocks-of-five = refl

-- bench case 8: the dock of the phantom bikes
bikes : Module
bikes =
    record {
      name = bytes "M";
      sensors = record { name = bytes "bikes"; type = int; getter = bytes "g" } ∷ [];
      actuators = record { name = bytes "sign"; type = int; start = 0; setter = bytes "f" } ∷ [];
      tasks = record { name = bytes "count"; function = bytes "c"; inputs = int ∷ []; outputs = record { name = bytes "o"; type = int; start = 10 } ∷ [] } ∷ [];
      guards = [];
      modes = record {
        name = bytes "m";
        start = true;
        period = 5000;
        calls = record { frequency = 1; guard = none; what = record { task = 0; sources = 0 ∷ [] } } ∷ [];
        updates = record { frequency = 1; guard = none; what = record { source = 3; target = 1 } } ∷ [];
        switches = [];
      } ∷ [];
    }

code-of-bikes : code_of bikes ≡
    call 2 ∷ release 0 ∷ future 4 5000 ∷ return
    ∷ call 0 ∷ nop 1 ∷ call 1 ∷ nop 2 ∷ jump 0 ∷ []
unfolding bikes code_of code_from mode_code later_blocks back front instants_of instants_from next_instant spans
code-of-bikes = refl

drivers-of-bikes : drivers_of bikes ≡ terminates 0 ∷ updates 3 1 ∷ releases 0 (0 ∷ []) ∷ []
unfolding bikes drivers_of
drivers-of-bikes = refl

-- the host of bench case 8, in time
in-time : replies bikes (next ∷ finish 0 (int ∷ []) (8 ∷ []) ∷ tick 4294967000 (int ∷ []) (1 ∷ []) ∷ tick 2705 (int ∷ []) (9 ∷ []) ∷ tick 2704 (int ∷ []) (9 ∷ []) ∷ [])
    (started bikes 4294965000 (7 ∷ []))
    ≡ given (some 0) ∷ taken ∷ waits ∷ refused 33 ∷ reacted ∷ []
unfolding bikes started ask entered instant next_instant spans port_starts fits
in-time = refl

ports-then : (comes bikes (next ∷ finish 0 (int ∷ []) (8 ∷ []) ∷ tick 2704 (int ∷ []) (9 ∷ []) ∷ []) (started bikes 4294965000 (7 ∷ []))).place.store.ports ≡ 9 ∷ 8 ∷ 9 ∷ 8 ∷ []
unfolding bikes started ask entered instant next_instant spans port_starts fits
ports-then = refl

-- without the finish
late-then : replies bikes (tick 2704 (int ∷ []) (9 ∷ []) ∷ next ∷ []) (started bikes 4294965000 (7 ∷ [])) ≡ fell 0 ∷ refused 31 ∷ []
unfolding bikes started ask entered instant next_instant spans port_starts fits
late-then = refl

-- two modes: a task twice a period, an update, a guarded switch; in the other mode an update at every end
two_modes : Module
two_modes =
    record {
      name = bytes "M";
      sensors = record { name = bytes "door"; type = boolean; getter = bytes "g" } ∷ [];
      actuators = record { name = bytes "lamp"; type = boolean; start = 0; setter = bytes "f" } ∷ [];
      tasks = record { name = bytes "watch"; function = bytes "w"; inputs = boolean ∷ []; outputs = record { name = bytes "o"; type = boolean; start = 0 } ∷ [] } ∷ [];
      guards = record { function = IsTrue; first = Port 3; second = Port 0 } ∷ [];
      modes = record {
        name = bytes "day";
        start = true;
        period = 10;
        calls = record { frequency = 2; guard = none; what = record { task = 0; sources = 0 ∷ [] } } ∷ [];
        updates = record { frequency = 2; guard = none; what = record { source = 3; target = 1 } } ∷ [];
        switches = record { frequency = 1; guard = some 0; what = 1 } ∷ [];
      }
          ∷ record {
            name = bytes "night";
            start = false;
            period = 4;
            calls = [];
            updates = record { frequency = 1; guard = none; what = record { source = 0; target = 1 } } ∷ [];
            switches = [];
          }
          ∷ [];
    }

-- drivers of a mode: its updates, then its releases; a guarded switch has an `if` whose else goes behind it
code-of-two : code_of two_modes ≡
    call 2 ∷ release 0 ∷ future 4 5 ∷ return
    ∷ call 0 ∷ nop 1 ∷ call 1 ∷ nop 2 ∷ call 2 ∷ release 0 ∷ future 12 5 ∷ return
    ∷ call 0 ∷ nop 1 ∷ call 1 ∷ nop 2 ∷ iff 0 18 ∷ switch 1 ∷ jump 0
    ∷ future 21 4 ∷ return ∷ nop 1 ∷ call 3 ∷ nop 2 ∷ jump 19 ∷ []
unfolding two_modes code_of code_from mode_code later_blocks back front instants_of instants_from next_instant spans
code-of-two = refl

begins-of-two : begins_of two_modes ≡ 0 ∷ 19 ∷ []
unfolding two_modes begins_of begins_from mode_code later_blocks back front instants_of instants_from next_instant spans
begins-of-two = refl

drivers-of-two : drivers_of two_modes ≡ terminates 0 ∷ updates 3 1 ∷ releases 0 (0 ∷ []) ∷ updates 0 1 ∷ []
unfolding two_modes drivers_of
drivers-of-two = refl

-- one turn of day in time, the second result true: the switch is taken at the end, and the target's update acts a period later
host : List Ask
host =
    next ∷ finish 0 (boolean ∷ []) (1 ∷ []) ∷ tick 5 (boolean ∷ []) (0 ∷ [])
    ∷ next ∷ finish 0 (boolean ∷ []) (1 ∷ []) ∷ tick 10 (boolean ∷ []) (0 ∷ []) ∷ []

at-night : T (
    (let at = (comes two_modes host (started two_modes 0 (0 ∷ []))).place in (eqb at.mode 1 && eqb at.time 0) && same at.store.ports (0 ∷ 1 ∷ 0 ∷ 1 ∷ []))
    && (let v = (ask two_modes (tick 14 (boolean ∷ []) (0 ∷ [])) (comes two_modes host (started two_modes 0 (0 ∷ [])))).view in same v.place.store.ports (0 ∷ 0 ∷ 0 ∷ 1 ∷ []))
    )
unfolding two_modes host started ask entered instant next_instant spans port_starts fits same holds
at-night = tt

-- results show only at the slot's end, and the task released there is the next slot's
shown : T (
    (let at = (comes two_modes (next ∷ finish 0 (boolean ∷ []) (1 ∷ []) ∷ []) (started two_modes 0 (0 ∷ []))).place in same at.store.ports (0 ∷ 0 ∷ 0 ∷ 0 ∷ []))
    && (let at = (comes two_modes (next ∷ finish 0 (boolean ∷ []) (1 ∷ []) ∷ tick 5 (boolean ∷ []) (0 ∷ []) ∷ []) (started two_modes 0 (0 ∷ []))).place in
    same at.store.ports (0 ∷ 1 ∷ 0 ∷ 1 ∷ []) && same at.released (0 ∷ []))
    )
unfolding two_modes started ask entered instant next_instant spans port_starts fits same holds
shown = tt

-- the start mode is the one that is marked, wherever it stands
marked : start_from 0 (no_mode ∷ record { name = []; start = true; period = 4; calls = []; updates = []; switches = [] } ∷ no_mode ∷ []) ≡ 1
marked = refl
