-- Start (document 01, 'The machine'): 30 table that the reader would never return; 32 readings of wrong count or type.
use Rattle.std.specs.Prelude.{ℕ, Bool, true, false, cond, List, get_or, replicate}
use Rattle.model.specs.Clock.{fits}
use Rattle.file.specs.Tables.{Table}
use Rattle.file.specs.Files.{sound}
use Rattle.machine.specs.declared.Reaction.TheVariants.{Refused}
use Rattle.machine.specs.Boards.{Board, board_of, board_room, aside_room}
use Rattle.machine.specs.Calls.{State, Ticked, reacted, reading_types}

-- Beginning values, the start mode, no task out, the count given and 0 remaining.
abbrev pub fresh : Board → ℕ → State
fresh b count =
    record {
      clock = count;
      remaining = 0;
      mode = b.start;
      pc = get_or b.begins b.start 0;
      store = record { ports = b.starts; out = 0; waiting = 0; finished = 0 };
      aside = replicate aside_room 0;
      stopped = false;
      fault = 0;
      late = 0;
    }

-- A refused start makes no machine: what stands in its place is stopped and empty.
abbrev pub no_machine : State
no_machine =
    record {
      clock = 0;
      remaining = 0;
      mode = 0;
      pc = 0;
      store = record { ports = replicate board_room 0; out = 0; waiting = 0; finished = 0 };
      aside = replicate aside_room 0;
      stopped = true;
      fault = 0;
      late = 0;
    }

-- a start, where it is known whether the table is sound
abbrev pub start_on : Bool → Board → ℕ → List ℕ → List ℕ → Ticked
start_on is_sound b count types words =
    let served = reacted b (fresh b count) count words in
    cond is_sound (cond (fits (reading_types b) types words) served (record { answer = Refused 32; state = no_machine })) (record { answer = Refused 30; state = no_machine })

-- a start: 30, 32, or the reaction at the start mode's begin
unfoldable pub start : Table → ℕ → List ℕ → List ℕ → Ticked
start t count types words = start_on (sound t) (board_of t) count types words
