-- Only the difference from the last accepted count matters; a missed instant is 33, changes nothing, and the due count is still served.
use Rattle.std.specs.Prelude.{ℕ, ◌+◌, ◌%◌, ◌^◌}
use Rattle.machine.specs.Calls.{State, Ticked}

-- ---- the same machine by a clock that is `by` further on

abbrev pub later : ℕ → ℕ → ℕ
later by count = (count + by) % 2 ^ 32

abbrev pub later_state : ℕ → State → State
later_state by m =
    record {
      clock = later by m.clock;
      remaining = m.remaining;
      mode = m.mode;
      pc = m.pc;
      store = m.store;
      aside = m.aside;
      stopped = m.stopped;
      fault = m.fault;
      late = m.late;
    }

abbrev pub later_ticked : ℕ → Ticked → Ticked
later_ticked by t = record { answer = t.answer; state = later_state by t.state }
