-- Laws: the count law by the rules: releases so far equal terminations of tasks that were out plus tasks out.
use Rattle.std.specs.Prelude.{ℕ, ◌+◌, get_or, set}
use mathlib.Core.List.{List, [], ◌∷◌}
use Rattle.std.proofs.Math.ListN.{length}
use Rattle.model.specs.Modules.{Module, Act, Call}
use Rattle.timing.specs.Rules.{Standing, idle}
use Rattle.timing.specs.Accepted.{Accepted}
use Rattle.timing.specs.Calls.{Ask, Reply, waits, reacted, refused, fell, given, taken, View, ask}
use Rattle.timing.specs.Standings.{is_out}
use Rattle.timing.specs.Lates.{ending_next}

-- ---- what is counted

-- The invocations whose slot ends, of tasks that were out.
abbrev pub ended_out : List (Act Call) → List Standing → ℕ
ended_out [] tasks = 0
ended_out (a ∷ rest) tasks = is_out (get_or tasks a.what.task idle) + ended_out rest (set tasks a.what.task idle)

-- of a call, by its reply: only a reaction counts
abbrev pub if_reacted : Reply → ℕ → ℕ
if_reacted waits n = 0
if_reacted reacted n = n
if_reacted (refused number) n = 0
if_reacted (fell task) n = 0
if_reacted (given task) n = 0
if_reacted taken n = 0

module _ (M : Module) where
  -- releases over a history
  abbrev pub releases_in : List Ask → View → ℕ
  releases_in [] v = 0
  releases_in (a ∷ rest) v = if_reacted (ask M a v).reply (length (ask M a v).view.place.released) + releases_in rest (ask M a v).view

  -- terminations of tasks that were out, over a history
  abbrev pub endings_in : List Ask → View → ℕ
  endings_in [] v = 0
  endings_in (a ∷ rest) v = if_reacted (ask M a v).reply (ended_out (ending_next M v) v.place.store.tasks) + endings_in rest (ask M a v).view

module _ (M : Module) (W : Accepted M) where
  abbrev pub tasks : View → List Standing
  tasks v = v.place.store.tasks
