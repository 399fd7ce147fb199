-- Demand 3: a machine started on an accepted module's table, called in any order, answers and shows exactly what the timing rules say.
use Prim.Native.Nat.{ℕ, zero, suc, ◌+◌, ◌-◌, ◌*◌, ◌^◌, ◌≤◌, ◌<◌}
use Rattle.std.proofs.Common.{arith, sym, ◌∙◌, length-append}
use Rattle.std.specs.Prelude.{◌≡◌, Bool, true, false, cond, replicate, eqb}
use Rattle.std.proofs.Math.Path.{refl, ap, ap₂, subst}
use Rattle.std.proofs.Math.Option.{Option, none, some}
use mathlib.Core.List.{List, [], ◌∷◌, ◌++◌, map}
use Rattle.std.proofs.Math.ListN.{length, get_or, take}
use Rattle.model.specs.Clock.{fits}
use Rattle.model.specs.Modules.{Module, Sensor, Actuator, Output, Task, each, task_types, task_starts, port_types, port_starts}
use Rattle.timing.specs.SlotLaws.{Each}
use Rattle.timing.specs.Rules as R
use Rattle.timing.specs.Rules.{Standing, idle}
use Rattle.timing.specs.Calls as C
use Rattle.timing.specs.Calls.{Ask, Reply, View, start_mode, beginning, started, replies, comes}
use Rattle.timing.specs.Code.{begins_of}
use Rattle.timing.specs.Accepted.{Accepted, ports}
use Rattle.machine.specs.declared.Reaction.{Reaction}
use Rattle.machine.specs.declared.Reaction.TheVariants.{Obeyed, Idle, Refused, Late, Fault}
use Rattle.machine.specs.Words.{has}
use Rattle.machine.specs.Asks as A
use Rattle.machine.specs.WordLaws.{bit, bit-above}
use Rattle.machine.specs.Boards.{Board, board_of, board_room, aside_room}
use Rattle.machine.specs.Instructions as E
use Rattle.machine.specs.Store.{Store}
use Rattle.machine.specs.Calls.{State, Ticked, reacted, reading_types}
use Rattle.machine.specs.Starts.{fresh, start_on, start}
use Rattle.file.specs.Files.{sound}
use Rattle.prescribed.specs.Tables.{table_of}
use Rattle.timing.specs.Docks as D
use Rattle.timing.specs.Docks.{Answer, ticking, reply_to, Dock, Told, asked, new_dock, started_dock, answers, leaves}
use Rattle.timing.specs.Histories.{shadow, Both, Alike}
use Rattle.timing.proofs.Histories.{start-both, histories-agree, no-other-fault}
use Rattle.bridge.specs.Boards.{board, board-begin, board-start, board-readings}
use Rattle.bridge.specs.Tabulated.{tab}
use Rattle.bridge.specs.Views.{stand_of, tasks, stand_at, standings, view, Neat}
use Rattle.bridge.specs.Docked.{Asked, asks, dock_of, Held, Agrees}

-- ---- histories of the machine

module _ (M : Module) where
  -- all that is answered, and the machine that is left
  abbrev pub machine_answers : List Ask → State → List Answer
  machine_answers rest m = A.answers (board M) rest m

  abbrev pub machine_leaves : List Ask → State → State
  machine_leaves rest m = A.behind (board M) rest m

  pub record Along (rest : List Ask) (m : State) (d : Dock) : Type 0 where
    pub same-answers : machine_answers rest m ≡ answers M rest d
    pub same-dock : dock_of M (machine_leaves rest m) ≡ leaves M rest d
    pub held : Held M (machine_leaves rest m)

module _ (M : Module) (W : Accepted M) where
  -- ---- start
  pub record Started (count : ℕ) (types words : List ℕ) : Type 0 where
    pub readable : sound (table_of M) ≡ true
    pub readings : fits (C.reading_types M) types words ≡ true

  -- the machine behind a start
  abbrev pub begun : ℕ → List ℕ → List ℕ → State
  begun count types words = (start (table_of M) count types words).state

  module _ (count : ℕ) (types words : List ℕ) (S : Started count types words) where
    -- FAITHFUL. After the start and any list of calls: every answer is the rules', and the machine shows what the rules show; how many instructions a reaction took is what the prescribed code takes, obeyed on the rules' own store.
    pub record Shows (rest : List Ask) : Type 0 where
      pub counts-are : machine_answers M rest (begun count types words) ≡ answers M rest (started_dock M count words).dock
      pub answers-are : map reply_to (machine_answers M rest (begun count types words)) ≡ map some (replies M rest (started M count words))
      pub pc : ℕ
      pub shown : dock_of M (machine_leaves M rest (begun count types words)) ≡ shadow M (comes M rest (started M count words)) pc
