-- What a block of a mode's code does where it stands: its front (terminations, updates, switches) and its back (releases, future, return).
use Prim.Native.Nat.{ℕ}
use mathlib.Core.List.{List}
use Rattle.model.specs.Modules.{Module, Mode}
use Rattle.model.specs.Instructions.{Instr}
use Rattle.timing.specs.SlotLaws.{Each}
use Rattle.timing.specs.Code.{driven_updates, driven_calls}
use Rattle.timing.specs.Runs.{Terminates, Updates}
use Rattle.timing.specs.Tasks.{Releases}

module _ (M : Module) (begins : List ℕ) (code : List Instr) where
  -- A mode whose drivers stand from n on.
  pub record Driving (n : ℕ) (m : Mode) : Type 0 where
    pub ends : Each (Terminates M begins code) m.calls
    pub updates : Each (Updates M begins code) (driven_updates n m)
    pub releases : Each (Releases M) (driven_calls n m)
