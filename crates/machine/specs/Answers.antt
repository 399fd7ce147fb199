-- For each enum of answers, document 01's number and values for each of its cases.
use Rattle.std.specs.Prelude.{ℕ, Some, None, Ok, Err}
use Rattle.std.proofs.Math.Option.{Option, none, some}
use Rattle.machine.specs.declared.Reaction.{Reaction}
use Rattle.machine.specs.declared.Reaction.TheVariants as R
use Rattle.machine.specs.Told.{Turn, Finishing}

-- The number of a refusal or fault (0: none), the number of instructions obeyed, and the task that is named.
pub record Meaning : Type 0 where
  pub number : ℕ
  pub instructions : ℕ
  pub task : Option ℕ

-- an answer's number, instructions and task
abbrev pub meaning : ℕ → ℕ → Option ℕ → Meaning
meaning number instructions task = record { number = number; instructions = instructions; task = task }

-- what start and tick answer
abbrev pub reaction_means : Reaction → Meaning
reaction_means (R.Obeyed instructions) = meaning 0 instructions none
reaction_means R.Idle = meaning 0 0 none
reaction_means (R.Refused number) = meaning number 0 none
reaction_means (R.Late task) = meaning 40 0 (some task)
reaction_means (R.Fault number) = meaning number 0 none

-- what next answers
abbrev pub turn_means : Turn → Meaning
turn_means (Ok (Some task)) = meaning 0 0 (some task)
turn_means (Ok None) = meaning 0 0 none
turn_means (Err why) = meaning why.number 0 none

-- what finish answers
abbrev pub finishing_means : Finishing → Meaning
finishing_means (Ok _) = meaning 0 0 none
finishing_means (Err why) = meaning why.number 0 none
