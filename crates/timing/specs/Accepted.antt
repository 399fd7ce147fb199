-- What a module has that no rule refuses: slots that fit, no task twice, no switch amid a task, and references and rooms that hold.
use Rattle.std.specs.Prelude.{ℕ, ◌+◌, ◌≤◌, ◌<◌, ◌≡◌, ◌≢◌, true, false, List, [], ◌∷◌, length, get_or}
use Rattle.std.proofs.Math.Option.{some}
use Rattle.std.specs.Int.{w32}
use Rattle.std.proofs.Common.{SFits}
use Rattle.model.specs.declared.Value.TheVariants.{Int, Flag}
use Rattle.model.specs.declared.Operand.{Operand}
use Rattle.model.specs.declared.Operand.TheVariants.{Port, Fixed}
use Rattle.model.specs.declared.Function.{Function}
use Rattle.model.specs.declared.Function.TheVariants.{IsTrue, IsFalse, Less, Equal}
use Rattle.model.specs.declared.Guard.{Guard}
use Rattle.model.specs.Rooms.{sensor_room, actuator_room, task_room, mode_room, port_room, all_port_room, guard_room, period_room}
use Rattle.model.specs.Values.{no_operand}
use Rattle.model.specs.Modules.{Module, Mode, no_task, Act, Call, Update, port_types}
use Rattle.timing.specs.Slots.{ends_at, amid_at}
use Rattle.timing.specs.SlotLaws.{Each}
use Rattle.timing.specs.Rules.{no_mode}
use Rattle.timing.specs.InstantLaws.{Lasting}
use Rattle.timing.specs.Calls.{start_mode}

-- no invocation of the list is of task t; no task is invoked twice
abbrev pub Absent : ℕ → List (Act Call) → Type 0
Absent t [] = Unit {0}
Absent t (a ∷ rest) = (t ≢ a.what.task) × Absent t rest

-- no task is invoked twice
abbrev pub Distinct : List (Act Call) → Type 0
Distinct [] = Unit {0}
Distinct (a ∷ rest) = Absent a.what.task rest × Distinct rest

-- A switch has a target, and where a slot of it ends no task is amid its own.
pub record Leads (period modes : ℕ) (calls : List (Act Call)) (a : Act ℕ) : Type 0 where
  pub target : a.what < modes
  pub clear : (t : ℕ) → ends_at period t a ≡ true → Each (λ c. amid_at period t c ≡ false) calls

-- ---- references

module _ (M : Module) where
  abbrev pub ports : ℕ
  ports = length (port_types M.sensors M.actuators M.tasks)

  abbrev pub Guarded : {A : Type 0} → Act A → Type 0
  Guarded a = (g : ℕ) → a.guard ≡ some g → g < length M.guards

  pub record CallFits (a : Act Call) : Type 0 where
    pub guard : Guarded a
    pub task : a.what.task < length M.tasks
    pub sources : Each (λ p. p < ports) a.what.sources
    pub as_many : length a.what.sources ≡ length (get_or M.tasks a.what.task no_task).inputs

  pub record UpdateFits (a : Act Update) : Type 0 where
    pub guard : Guarded a
    pub source : a.what.source < ports
    pub target : a.what.target < ports

  -- an operand that the file can hold, and a guard
  abbrev pub OperandFits : Operand → Type 0
  OperandFits (Port p) = p < ports
  OperandFits (Fixed (Int number)) = SFits w32 number
  OperandFits (Fixed (Flag flag)) = Unit {0}

  abbrev pub SecondFits : Function → Operand → Type 0
  SecondFits IsTrue second = second ≡ no_operand
  SecondFits IsFalse second = second ≡ no_operand
  SecondFits Less second = OperandFits second
  SecondFits Equal second = OperandFits second

  pub record GuardFits (guard : Guard) : Type 0 where
    pub first : OperandFits guard.first
    pub second : SecondFits guard.function guard.second

-- ---- a mode, and a module

-- what the refusals leave of a mode
pub record ModeFits (M : Module) (m : Mode) : Type 0 where
  pub lasting : Lasting m
  pub period : m.period ≤ period_room
  pub calls : Each (CallFits M) m.calls
  pub updates : Each (UpdateFits M) m.updates
  pub guarded : Each (λ a. Guarded M a) m.switches
  pub distinct : Distinct m.calls
  pub leads : Each (Leads m.period (length M.modes) m.calls) m.switches

-- what the refusals leave of a module
pub record Accepted (M : Module) : Type 0 where
  pub modes : (k : ℕ) → k < length M.modes → ModeFits M (get_or M.modes k no_mode)
  pub start : start_mode M < length M.modes
  pub guards : Each (GuardFits M) M.guards
  pub few-sensors : length M.sensors ≤ sensor_room
  pub few-actuators : length M.actuators ≤ actuator_room
  pub few-tasks : length M.tasks ≤ task_room
  pub few-modes : length M.modes ≤ mode_room
  pub few-guards : length M.guards ≤ guard_room
  pub few-ports : ports M ≤ sensor_room + actuator_room + all_port_room + all_port_room
  pub few-outputs : Each (λ t. length t.outputs ≤ port_room) M.tasks
