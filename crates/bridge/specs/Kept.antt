-- The machine's operations on its words are the rules' on their standings.
use Rattle.std.specs.Prelude.{ℕ, zero, suc, ◌+◌, ◌-◌, ◌*◌, ◌≤◌, ◌<◌, ◌≡◌, ◌⊎◌, Bool, true, false, cond, List, [], ◌∷◌, ◌++◌, map, length, get_or, set, take, drop}
use Rattle.std.proofs.Common.{arith, sym, ◌∙◌, ap, ap₂, subst, inl, inr, get_or-take}
use Rattle.std.proofs.Math.Path.{refl}
use Rattle.std.proofs.Math.Option.{Option, none, some}
use Rattle.model.specs.Rooms.{port_room, task_room}
use Rattle.model.specs.Values.{holds, says, operand_word, word_of, no_guard, no_operand}
use Rattle.model.specs.Modules.{Module, Mode, Task, Act, Call, Update, each, place, copy_to}
use Rattle.model.specs.Instructions.{Instr, call, release, iff, Driver, updates, releases, terminates, no_driver}
use Rattle.model.specs.declared.Value.{Value}
use Rattle.model.specs.declared.Value.TheVariants.{Int, Flag}
use Rattle.model.specs.declared.Operand.{Operand}
use Rattle.model.specs.declared.Operand.TheVariants.{Port, Fixed}
use Rattle.model.specs.declared.Function.{Function}
use Rattle.model.specs.declared.Function.TheVariants.{IsTrue, IsFalse, Less, Equal}
use Rattle.model.specs.declared.Guard.{Guard}
use Rattle.timing.specs.SlotLaws.{Each}
use Rattle.timing.specs.Rules as R
use Rattle.timing.specs.Rules.{Standing, idle, ready, running, done, inputs_of, outputs_of, no_mode}
use Rattle.timing.specs.Code.{drivers_of, terminates_from, mode_drivers, code_of, begins_of}
use Rattle.timing.specs.Accepted.{Accepted, ModeFits, CallFits, UpdateFits, GuardFits, OperandFits, SecondFits, ports}
use Rattle.machine.specs.Words.{has, joined, parted}
use Rattle.machine.specs.Boards.{Board, Lot}
use Rattle.machine.specs.Instructions as E
use Rattle.machine.specs.Instructions.{Res, ok, bad, Ops, Future, Tally, Run, exec}
use Rattle.machine.specs.Store.{Store, part, lot_of, ended, released, driven, ending_by, store_ops, with_ports}
use Rattle.timing.specs.Stands as S
use Rattle.timing.specs.Standings.{is_out}
use Rattle.timing.specs.Stands.{stand_ops}
use Rattle.bridge.specs.Boards.{board, board-code, board-driver, board-guard, board-begin, board-lot}
use Rattle.bridge.specs.Carried.{all_drop, Both, Keeps, Same, runs}
use Rattle.bridge.specs.Sane.{Sane, code-sane}
use Rattle.bridge.specs.Views.{take-set, take-place, take-copy, stand_of, Fitting, fitting-done, tasks, results_of, row_of, stand_at, standings, view, Neat, stands_at, begun-tasks, ended-tasks, begun-neat, ended-neat}

-- ---- every driver names what is there

module _ (M : Module) where
  abbrev pub DriverFits : Driver → Type 0
  DriverFits (updates source target) = (ports M ≡ 0) ⊎ (source < ports M)
  DriverFits (releases task sources) = (task < tasks M) × Each (λ p. p < ports M) sources
  DriverFits (terminates task) = task < tasks M

  -- ---- the operations
  module _ (W : Accepted M) (aside : List ℕ) where
    abbrev pub Good : Store → Type 0
    Good s = Neat M s.out s.waiting s.finished
