-- One instruction, over the core that the code carries from one to the next and the ports beside it.
use Rattle.std.specs.Prelude.{ℕ, ◌+◌, Bool, true, false, cond, List, length, get_or, ltb, Option, Some, None, Result, Ok, Err}
use Rattle.std.proofs.Math.Option as M
use Rattle.std.proofs.Math.Option.{none, some}
use Rattle.model.specs.Instructions.{Instr, nop, future, call, release, iff, jump, return, switch}
use Rattle.machine.specs.Boards.{Board}
use Rattle.machine.specs.Instructions as I
use Rattle.machine.specs.Instructions.{late, wild, astray, clash, Res, ok, bad, Halt}
use Rattle.machine.specs.Store.{Store, store_ops}
use Rattle.steps.specs.Rows.{reactive}
use Rattle.steps.specs.declared.Tasks.{Tasks}
use Rattle.steps.specs.declared.Future.{Future}
use Rattle.steps.specs.declared.Halted.{Halted}
use Rattle.steps.specs.declared.Core.{Core}
use Rattle.steps.specs.declared.Fault.{Fault}
use Rattle.steps.specs.declared.Fault.TheVariants as F
use Rattle.steps.specs.declared.programs.Program.{Program}

-- what a program stands for
abbrev pub board_of : Program → Board
board_of p = reactive p.instructions p.code.now p.drivers.now p.guards.now p.modes.now p.tasks.now

-- how a reaction ends
abbrev pub Ending : Type 0
Ending = Result Halted Fault

-- what comes after an instruction: the next one, or the end
pub data After : Type 0 where
  Next : Core → After
  Ended : Ending → After

-- ---- what the code's values stand for

abbrev pub store_of : Tasks → List ℕ → Store
store_of tasks ports = record { ports = ports; out = tasks.out; waiting = tasks.waiting; finished = tasks.finished }

abbrev pub tasks_of : Store → Tasks
tasks_of store = record { out = store.out; waiting = store.waiting; finished = store.finished }

abbrev pub promise_of : Option Future → M.Option I.Future
promise_of (Some held) = some (record { pc = held.pc; delay = held.delay })
promise_of None = none

abbrev pub fault_by : I.Fault → Fault
fault_by (late task) = F.Late task
fault_by wild = F.Wild
fault_by astray = F.Astray
fault_by clash = F.Clash

-- its number in document 01
abbrev pub number_of : Fault → ℕ
number_of (F.Late task) = 40
number_of F.Wild = 41
number_of F.Astray = 42
number_of F.Clash = 43

abbrev pub halted_by : Halt Store → Halted
halted_by halt =
    record { mode = halt.mode; future = record { pc = halt.future.pc; delay = halt.future.delay }; tasks = tasks_of halt.store }

-- ---- what a driver leaves: a fault changes nothing

pub record Driven : Type 0 where
  pub answer : Result (Unit {0}) Fault
  pub tasks : Tasks
  pub ports : List ℕ

abbrev pub drove : Result (Unit {0}) Fault → Tasks → List ℕ → Driven
drove answer tasks ports = record { answer = answer; tasks = tasks; ports = ports }

abbrev pub settles : Tasks → List ℕ → Res Store → Driven
settles tasks ports (ok store) = drove (Ok tt) (tasks_of store) store.ports
settles tasks ports (bad fault) = drove (Err (fault_by fault)) tasks ports

-- ---- changes of the core

abbrev pub goes : ℕ → Core → Core
goes pc core = record { pc = pc; mode = core.mode; future = core.future; tasks = core.tasks }

abbrev pub turns : ℕ → ℕ → Core → Core
turns mode pc core = record { pc = pc; mode = mode; future = core.future; tasks = core.tasks }

abbrev pub pledges : ℕ → ℕ → Core → Core
pledges pc delay core = record { pc = core.pc; mode = core.mode; future = Some (record { pc = pc; delay = delay }); tasks = core.tasks }

abbrev pub keeps : Tasks → Core → Core
keeps tasks core = record { pc = core.pc; mode = core.mode; future = core.future; tasks = tasks }

abbrev pub halted_of : Future → Core → Halted
halted_of held core = record { mode = core.mode; future = held; tasks = core.tasks }

-- ---- one instruction; the core's pc stands behind it

pub record Stepped : Type 0 where
  pub after : After
  pub ports : List ℕ

abbrev pub stepped : After → List ℕ → Stepped
stepped after ports = record { after = after; ports = ports }

abbrev pub settled : Core → List ℕ → Res Store → Stepped
settled core ports (ok store) = stepped (Next (keeps (tasks_of store) core)) store.ports
settled core ports (bad fault) = stepped (Ended (Err (fault_by fault))) ports

abbrev pub promised : ℕ → ℕ → Core → Option Future → After
promised pc delay core (Some held) = Ended (Err F.Astray)
promised pc delay core None = Next (pledges pc delay core)

abbrev pub returned : Core → Option Future → After
returned core (Some held) = Ended (Ok (halted_of held core))
returned core None = Ended (Err F.Astray)

module _ (b : Board) (aside : List ℕ) where
  abbrev pub obey : Instr → Core → List ℕ → Stepped
  obey (nop marker) core ports = stepped (Next core) ports
  obey (future pc delay) core ports = stepped (promised pc delay core core.future) ports
  obey (call driver) core ports = settled core ports ((store_ops b aside).drive driver (store_of core.tasks ports))
  obey (release task) core ports = settled core ports ((store_ops b aside).begin task (store_of core.tasks ports))
  obey (iff guard other) core ports = stepped (Next (cond ((store_ops b aside).test guard (store_of core.tasks ports)) core (goes other core))) ports
  obey (jump pc) core ports = stepped (Next (goes pc core)) ports
  obey return core ports = stepped (returned core core.future) ports
  obey (switch target) core ports = stepped (Next (turns target (get_or b.begins target 0) core)) ports

  unfoldable pub step_of : Core → List ℕ → Stepped
  step_of core ports =
      cond (ltb core.pc (length b.code)) (obey (get_or b.code core.pc (nop 0)) (goes (core.pc + 1) core) ports)
      (stepped (Ended (Err F.Wild)) ports)
