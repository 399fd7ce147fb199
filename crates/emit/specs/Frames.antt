-- A mode by the numbers of its row, as the generator carries it.
use Rattle.std.specs.Prelude.{ℕ, ◌+◌, ◌*◌, ◌≡◌, List, get_or}
use Rattle.model.specs.Rooms.{activity_room}
use Rattle.model.specs.Modules.{Mode}
use Rattle.emit.specs.Rows.{mode_of, within}
use Rattle.emit.specs.declared.frames.Frame.{Frame}
use Rattle.emit.specs.declared.activities.Kind.{Kind}
use Rattle.emit.specs.declared.activities.Kind.TheVariants.{Termination, Update, Switch, Release}
use Rattle.emit.specs.declared.activities.Group.{Group}

abbrev pub mode_in : List ℕ → Frame → Mode
mode_in acts m = mode_of acts m.period m.calls m.updates m.switches m.row

-- the numbers of mode k, whose first driver this is
pub record FrameOf (modes : List ℕ) (k driver : ℕ) (m : Frame) : Type 0 where
  pub period : m.period ≡ get_or modes (k * 5) 0
  pub row : m.row ≡ get_or modes (k * 5 + 4) 0
  pub calls : m.calls ≡ within activity_room modes (k * 5 + 1)
  pub updates : m.updates ≡ within activity_room modes (k * 5 + 2)
  pub switches : m.switches ≡ within activity_room modes (k * 5 + 3)
  pub base : m.driver ≡ driver

-- the rows of the activities of a kind, and their first driver
abbrev pub group_of : Frame → Kind → Group
group_of m Termination = record { kind = Termination; row = m.row; count = m.calls; driver = 0 }
group_of m Update = record { kind = Update; row = m.row + m.calls; count = m.updates; driver = m.driver }
group_of m Switch = record { kind = Switch; row = m.row + m.calls + m.updates; count = m.switches; driver = 0 }
group_of m Release = record { kind = Release; row = m.row; count = m.calls; driver = m.driver + m.updates }
