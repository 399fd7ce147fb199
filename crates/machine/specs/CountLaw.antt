-- Laws: releases so far equal terminations plus tasks out, over every history of calls: terminations of tasks that were out, tasks out by the word.
use Prim.Native.Nat.{ℕ, ◌+◌, ◌^◌, ◌<◌}
use Rattle.std.specs.Prelude.{◌≡◌, true, ltb}
use Rattle.std.proofs.Math.Bool.{Bool}
use mathlib.Core.List.{List, [], ◌∷◌}
use Rattle.model.specs.Instructions.{Instr, nop, future, call, release, iff, jump, return, switch}
use Rattle.machine.specs.Words.{count_in}
use Rattle.machine.specs.Instructions.{Tally}
use Rattle.machine.specs.Store.{Store}
use Rattle.machine.specs.Calls.{tasks_out}
use Rattle.machine.specs.Counts.{Account}

-- ---- code whose releases name tasks that a word can hold

-- whether the task of a release has a bit
abbrev pub within : Instr → Bool
within (release task) = ltb task 64
within (nop marker) = true
within (future pc delay) = true
within (call driver) = true
within (iff guard other) = true
within (jump pc) = true
within return = true
within (switch target) = true

-- so for every instruction
abbrev pub Within : List Instr → Type 0
Within [] = Unit {0}
Within (i ∷ rest) = (within i ≡ true) × Within rest

-- ---- the books of a run: what was out at first and is released since is what is terminated and out
-- releases and terminations square with the tasks out
pub record Square (first : ℕ) (n : Tally) (s : Store) : Type 0 where
  pub word : s.out < 2 ^ 64
  pub books : n.begun + first ≡ n.ended + count_in s.out

-- ---- calls

-- The books of a machine between calls.
pub record Balanced (a : Account) : Type 0 where
  pub word : a.state.store.out < 2 ^ 64
  pub books : a.releases ≡ a.terminations + tasks_out a.state
