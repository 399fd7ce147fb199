-- What the lent arrays hold behind a call: each as before it, or written anew from the state that the call leaves.
use Rattle.std.specs.Prelude.{ℕ, List, [], ◌∷◌, get_or, Some, None, Ok, Err}
use Rattle.machine.specs.declared.Reaction.{Reaction}
use Rattle.machine.specs.declared.Reaction.TheVariants as R
use Rattle.machine.specs.Told.{Turn, Finishing}
use Rattle.machine.specs.Calls as C
use Rattle.machine.specs.Calls.{State}

-- numbers, marks and sets
pub record Lent : Type 0 where
  pub numbers : List ℕ
  pub marks : List ℕ
  pub sets : List ℕ

abbrev pub lent : List ℕ → List ℕ → List ℕ → Lent
lent numbers marks sets = record { numbers = numbers; marks = marks; sets = sets }

-- the numbers and the words of tasks of a state
abbrev pub numbers_of : State → List ℕ
numbers_of s = s.clock ∷ s.remaining ∷ s.mode ∷ s.pc ∷ s.late ∷ []

abbrev pub sets_of : State → List ℕ
sets_of s = s.store.out ∷ s.store.waiting ∷ s.store.finished ∷ []

-- behind a start or a tick: the numbers are written where it was not refused, the words of tasks where the reaction returned; a fault marks 1 and its number
abbrev pub lent_as : Lent → Reaction → State → Lent
lent_as before (R.Obeyed instructions) s = lent (numbers_of s) before.marks (sets_of s)
lent_as before R.Idle s = lent (numbers_of s) before.marks before.sets
lent_as before (R.Refused number) s = before
lent_as before (R.Late task) s = lent (numbers_of s) (1 ∷ 40 ∷ []) before.sets
lent_as before (R.Fault number) s = lent (numbers_of s) (1 ∷ number ∷ []) before.sets

abbrev pub lent_by : Lent → C.Ticked → Lent
lent_by before t = lent_as before t.answer t.state

-- the words of tasks behind next: written where a task was handed out
abbrev pub sets_as : List ℕ → Turn → State → List ℕ
sets_as before (Ok (Some task)) s = sets_of s
sets_as before (Ok None) s = before
sets_as before (Err why) s = before

abbrev pub sets_handed : List ℕ → C.Handed → List ℕ
sets_handed before t = sets_as before t.answer t.state

-- and behind finish: written where the results were taken
abbrev pub sets_upon : List ℕ → Finishing → State → List ℕ
sets_upon before (Ok _) s = sets_of s
sets_upon before (Err why) s = before

abbrev pub sets_finished : List ℕ → C.Finished → List ℕ
sets_finished before t = sets_upon before t.answer t.state
