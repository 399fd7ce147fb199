-- Laws: no other answer exists. Start, tick, next and finish answer with document 01's numbers alone ('The machine'), and with instructions only where some were obeyed.
use Prim.Native.Nat.{ℕ, ◌≤◌}
use Rattle.std.specs.Prelude.{◌≡◌, Bool, ◌||◌, length, eqb, Some, None, Ok, Err}
use Rattle.std.proofs.Math.Bool.{true, false}
use Rattle.std.proofs.Math.Option.{none, some}
use mathlib.Core.List.{List, [], ◌∷◌}
use Rattle.machine.specs.declared.Reaction.{Reaction}
use Rattle.machine.specs.declared.Reaction.TheVariants as R
use Rattle.machine.specs.Told.{Turn, Finishing}
use Rattle.machine.specs.Boards.{Board}
use Rattle.machine.specs.Instructions.{Fault, late, wild, astray, clash}
use Rattle.machine.specs.Calls.{Ticked}
use Rattle.machine.specs.Answers.{Meaning, meaning, reaction_means}

-- ---- the answers of each call

-- whether a number is one of these
abbrev pub one_of : List ℕ → ℕ → Bool
one_of [] number = false
one_of (k ∷ ks) number = eqb number k || one_of ks number

-- start: instructions, no more than the code holds; 30 and 32; fault 40 with the task; 41 to 43
abbrev pub StartAnswer : Board → Reaction → Type 0
StartAnswer b (R.Obeyed instructions) = instructions ≤ length b.code
StartAnswer b R.Idle = ⊥
StartAnswer b (R.Refused number) = one_of (30 ∷ 32 ∷ []) number ≡ true
StartAnswer b (R.Late task) = Unit {0}
StartAnswer b (R.Fault number) = one_of (41 ∷ 42 ∷ 43 ∷ []) number ≡ true

-- tick: instructions, or idle; 31 to 33; fault 40 with the task; 41 to 43
abbrev pub TickAnswer : Board → Reaction → Type 0
TickAnswer b (R.Obeyed instructions) = instructions ≤ length b.code
TickAnswer b R.Idle = Unit {0}
TickAnswer b (R.Refused number) = one_of (31 ∷ 32 ∷ 33 ∷ []) number ≡ true
TickAnswer b (R.Late task) = Unit {0}
TickAnswer b (R.Fault number) = one_of (41 ∷ 42 ∷ 43 ∷ []) number ≡ true

-- next: a task, or none; 31
abbrev pub NextAnswer : Turn → Type 0
NextAnswer (Ok (Some task)) = Unit {0}
NextAnswer (Ok None) = Unit {0}
NextAnswer (Err why) = one_of (31 ∷ []) why.number ≡ true

-- finish: taken; 31, 34, 35
abbrev pub FinishAnswer : Finishing → Type 0
FinishAnswer (Ok _) = Unit {0}
FinishAnswer (Err why) = one_of (31 ∷ 34 ∷ 35 ∷ []) why.number ≡ true

-- the number of a fault, and the task that is late
abbrev pub fault_means : Fault → Meaning
fault_means (late task) = meaning 40 0 (some task)
fault_means wild = meaning 41 0 none
fault_means astray = meaning 42 0 none
fault_means clash = meaning 43 0 none

-- ---- a fault is answered with its number, and the machine is stopped by it

pub record Stopped (fault : Fault) (t : Ticked) : Type 0 where
  pub answered : reaction_means t.answer ≡ fault_means fault
  pub stopped : t.state.stopped ≡ true
  pub number : t.state.fault ≡ (fault_means fault).number
