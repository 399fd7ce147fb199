-- What a host asks of a machine that is started, call by call (document 01, 'The machine').
use Rattle.std.specs.Prelude.{ℕ, List, [], ◌∷◌}
use Rattle.machine.specs.declared.Reaction.{Reaction}
use Rattle.machine.specs.Told.{Turn, Finishing}
use Rattle.machine.specs.Answers.{Meaning, reaction_means, turn_means, finishing_means}
use Rattle.machine.specs.Boards.{Board}
use Rattle.machine.specs.Calls as C
use Rattle.machine.specs.Calls.{State, next_task}

-- A call. Values are handed in as their types and their words.
pub data Ask : Type 0 where
  tick : ℕ → List ℕ → List ℕ → Ask  -- count, readings
  next : Ask
  finish : ℕ → List ℕ → List ℕ → Ask  -- task, results

-- what a call answers
pub data Answer : Type 0 where
  ticking : Reaction → Answer
  turning : Turn → Answer
  finishing : Finishing → Answer

-- its number, instructions and task in document 01
abbrev pub means : Answer → Meaning
means (ticking reaction) = reaction_means reaction
means (turning turn) = turn_means turn
means (finishing result) = finishing_means result

-- an answer, and the machine after it
pub record Asked : Type 0 where
  pub answer : Answer
  pub state : State

module _ (b : Board) where
  -- a call of a machine
  abbrev pub asks : Ask → State → Asked
  asks (tick count types words) m = record { answer = ticking (C.tick b m count types words).answer; state = (C.tick b m count types words).state }
  asks next m = record { answer = turning (next_task m).answer; state = (next_task m).state }
  asks (finish task types words) m = record { answer = finishing (C.finish b m task types words).answer; state = (C.finish b m task types words).state }

  -- calls one after the other: all that is answered
  abbrev pub answers : List Ask → State → List Answer
  answers [] m = []
  answers (a ∷ rest) m = (asks a m).answer ∷ answers rest (asks a m).state

  -- the machine behind calls
  abbrev pub behind : List Ask → State → State
  behind [] m = m
  behind (a ∷ rest) m = behind rest (asks a m).state
