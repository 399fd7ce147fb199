-- What the slots of a frequency do at one instant.
use Rattle.std.specs.Prelude.{ℕ, ◌/◌, ◌<◌, ◌≡◌, Bool, false, List, length, get_or}
use Rattle.timing.specs.Slots.{slots_from, any_of, span_ends, span_begins, next_on}
use Rattle.emit.specs.declared.activities.Kind.{Kind}
use Rattle.emit.specs.declared.activities.Kind.TheVariants.{Termination, Update, Switch, Release}
use Rattle.emit.specs.declared.slots.Marks.{Marks}

-- later than any instant: where no slot ends ahead
abbrev pub never : ℕ
never = 4294967296

-- whether a kind of activity is due there
abbrev pub due_by : Kind → Marks → Bool
due_by Termination marks = marks.ends
due_by Update marks = marks.ends
due_by Switch marks = marks.ends
due_by Release marks = marks.begins

pub record Edge (period t frequency : ℕ) (marks : Marks) : Type 0 where
  pub ahead : marks.ahead ≡ next_on t (slots_from (period / frequency) frequency 0) never
  pub begins : marks.begins ≡ any_of (span_begins t) (slots_from (period / frequency) frequency 0)
  pub ends : marks.ends ≡ any_of (span_ends t) (slots_from (period / frequency) frequency 0)

abbrev pub nothing : Marks
nothing = record { ahead = never; begins = false; ends = false }

-- those of the first frequencies
pub record Edges (period t : ℕ) (marks : List Marks) : Type 0 where
  pub each : (frequency : ℕ) → frequency < length marks → Edge period t frequency (get_or marks frequency nothing)
