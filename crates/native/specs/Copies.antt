-- A machine as one record, ticked again and again, each tick so much later than the last accepted count.
use Rattle.std.specs.Prelude.{ℕ, zero, suc, ◌+◌, ◌%◌, ◌^◌, Bool, true, false, List}
use Rattle.file.specs.declared.ReadAnswer.{ReadAnswer}
use Rattle.file.specs.declared.ReadAnswer.TheVariants.{Read, Refused}
use Rattle.machine.specs.Calls.{tick}
use Rattle.machine.specs.Starts.{start_on}
use Rattle.reading.specs.declared.Reading.{Reading}
use Rattle.emachine.specs.declared.Machine.{Machine}
use Rattle.emachine.specs.Machines.{board_in, state_in, ticked_on}

-- whether the reader returned a table
abbrev pub is_read : ReadAnswer → Bool
is_read Read = true
is_read (Refused number) = false

-- the machine after one tick
abbrev pub ticked_by : ℕ → List ℕ → List ℕ → Machine → Machine
ticked_by later types words m = (ticked_on m.table (tick (board_in m.table) (state_in m) ((m.standing.clock + later) % 2 ^ 32) types words)).machine

-- the machine after so many ticks
unfoldable pub ticks_from : ℕ → List ℕ → List ℕ → ℕ → Machine → Machine
ticks_from later types words zero m = m
ticks_from later types words (suc n) m = ticks_from later types words n (ticked_by later types words m)

-- the machine of what the reader returns, started at a count, after so many ticks
abbrev pub ticks_of : Reading → ℕ → ℕ → ℕ → List ℕ → List ℕ → Machine
ticks_of reading count later times types words =
    ticks_from later types words times (ticked_on reading.table (start_on (is_read reading.answer) (board_in reading.table) count types words)).machine
