-- Results show in ports only by a termination: a reaction that terminates no task that is out is the same whatever stands aside.
use Prim.Native.Nat.{ℕ}
use Rattle.std.specs.Prelude.{◌≡◌}
use Rattle.std.proofs.Math.Option.{Option}
use mathlib.Core.List.{List}
use Rattle.model.specs.Instructions.{Instr}
use Rattle.machine.specs.Boards.{Board}
use Rattle.machine.specs.Instructions.{Res, ok, bad, Future, Tally, Halt, Run, exec}
use Rattle.machine.specs.Store.{Store, store_ops}

-- A run that returned, and ended none.
abbrev pub Calm : ℕ → ℕ → Res (Halt Store) → Type 0
Calm before after (ok halt) = after ≡ before
Calm before after (bad fault) = ⊥

module _ (b : Board) (aside : List ℕ) where
  abbrev pub runs : ℕ → List Instr → ℕ → Option Future → Tally → Store → Run Store
  runs most rest mode u n s = exec (store_ops b aside) b.begins b.code most rest mode u n s
