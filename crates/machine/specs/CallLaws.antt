-- What each call answers, case by case, and what it leaves as it was (document 01, 'The machine').
use Rattle.std.specs.Prelude.{ℕ, ◌*◌, List}
use Rattle.model.specs.Rooms.{port_room}
use Rattle.model.specs.Modules.{place}
use Rattle.machine.specs.Words.{joined}
use Rattle.machine.specs.Boards.{Board}
use Rattle.machine.specs.Calls.{State, with_words}

-- ---- finish

module _ (b : Board) (m : State) (task : ℕ) (types words : List ℕ) where
  abbrev pub taken : State
  taken = with_words m (record { ports = m.store.ports; out = m.store.out; waiting = m.store.waiting; finished = joined m.store.finished task }) (place (task * port_room) words m.aside)
