-- The grammar's order: which items come while a mode is open.
use Rattle.std.specs.Prelude.{ℕ, ◌≡◌, refl, Bool, true, false, List}
use Rattle.text.specs.declared.State.{State}
use Rattle.text.specs.declared.State.TheVariants as Q
use Rattle.text.specs.declared.Item.{Item}
use Rattle.accepted.specs.Steps.{plain, guarded, Comes, module-begins, module-section, constant, sensor, actuator, task-begins, task-section, input, output, task-ends, mode-begins, mode-section, activity, guard-alone, guard, guard-arg, guard-last, invoke-alone, invoke, arg, arg-last, update, switch, mode-ends, module-ends, text-ends}
use Rattle.sheets.specs.Held.{Ordered, inside_after}

-- whether a mode is open in a state
abbrev pub inside_of : State → Bool
inside_of Q.Begin = false
inside_of (Q.Module k) = false
inside_of (Q.Task k) = false
inside_of (Q.Mode k) = true
inside_of (Q.Act k) = true
inside_of (Q.Guarded k) = true
inside_of (Q.GuardArgs k) = true
inside_of Q.Args = true
inside_of Q.Finish = false

pub record InOrder (q : State) (item : Item) (p : State) : Type 0 where
  pub ordered : Ordered (inside_of q) item
  pub inside-now : inside_after (inside_of q) item ≡ inside_of p

module _ {s : List ℕ} {at next : ℕ} where
  pub comes-in-order : {q p : State} {item : Item} → Comes s q at item p next → InOrder q item p
  comes-in-order (module-begins name) = record { ordered = tt; inside-now = refl }
  comes-in-order (module-section k w a b) = record { ordered = tt; inside-now = refl }
  comes-in-order (constant name value) = record { ordered = tt; inside-now = refl }
  comes-in-order (sensor typ name getter) = record { ordered = tt; inside-now = refl }
  comes-in-order (actuator typ name value setter) = record { ordered = tt; inside-now = refl }
  comes-in-order (task-begins k name a) = record { ordered = tt; inside-now = refl }
  comes-in-order (task-section k w a) = record { ordered = tt; inside-now = refl }
  comes-in-order (input typ name) = record { ordered = tt; inside-now = refl }
  comes-in-order (output typ name value) = record { ordered = tt; inside-now = refl }
  comes-in-order (task-ends k name) = record { ordered = refl; inside-now = refl }
  comes-in-order (mode-begins k start begin name digits milli a) = record { ordered = refl; inside-now = refl }
  comes-in-order (mode-section k w a b) = record { ordered = tt; inside-now = refl }
  comes-in-order (activity k begin digits a) = record { ordered = tt; inside-now = refl }
  comes-in-order (guard-alone k name) = record { ordered = tt; inside-now = refl }
  comes-in-order (guard k name count e) = record { ordered = tt; inside-now = refl }
  comes-in-order (guard-arg k port e) = record { ordered = tt; inside-now = refl }
  comes-in-order (guard-last k port e) = record { ordered = tt; inside-now = refl }
  comes-in-order (invoke-alone name plain) = record { ordered = refl; inside-now = refl }
  comes-in-order (invoke-alone name guarded) = record { ordered = refl; inside-now = refl }
  comes-in-order (invoke name count plain e) = record { ordered = refl; inside-now = refl }
  comes-in-order (invoke name count guarded e) = record { ordered = refl; inside-now = refl }
  comes-in-order (arg port e) = record { ordered = refl; inside-now = refl }
  comes-in-order (arg-last port e) = record { ordered = refl; inside-now = refl }
  comes-in-order (update name source plain) = record { ordered = refl; inside-now = refl }
  comes-in-order (update name source guarded) = record { ordered = refl; inside-now = refl }
  comes-in-order (switch k name plain a b) = record { ordered = refl; inside-now = refl }
  comes-in-order (switch k name guarded a b) = record { ordered = refl; inside-now = refl }
  comes-in-order (mode-ends k) = record { ordered = refl; inside-now = refl }
  comes-in-order (module-ends k) = record { ordered = tt; inside-now = refl }
  comes-in-order text-ends = record { ordered = tt; inside-now = refl }
