use mathlib.Core.Path.{ap}
use Rattle.text.specs.declared.Port.{Port}
use Rattle.kept.specs.Kinds.{kind-module, kind-section, kind-constant, kind-sensor, kind-actuator, kind-task, kind-input, kind-output, kind-task-end, kind-mode, kind-activity, kind-guard, kind-guard-arg, kind-invoke, kind-arg, kind-update, kind-switch, kind-mode-end, kind-module-end, kind-end, kind-no}
use native.Mathlib.Omega.{arith}
use Rattle.kept.proofs.storing.lay.Goals as goal

pub returns-in-Module : goal.returns-in-Module
returns-in-Module c = rw c.in-Module.is (record { told = rw (kind-module c.named.new.row c.named.ensures.0, c.named.ensures.1); kind = c.named.ensures.0; name = c.named.ensures.1 })

pub returns-in-Section : goal.returns-in-Section
returns-in-Section c = rw c.in-Section.is (record { told = rw (kind-section c.plain.new.row c.plain.ensures.0); kind = c.plain.ensures.0; name = c.plain.ensures.1 })

pub returns-in-Constant : goal.returns-in-Constant
returns-in-Constant c = rw c.in-Constant.is (record { told = rw (kind-constant c.constant.new.row c.constant.ensures.0, c.constant.ensures.1, c.constant.ensures.2); kind = c.constant.ensures.0; name = c.constant.ensures.1 })

pub returns-in-Sensor : goal.returns-in-Sensor
returns-in-Sensor c = rw c.in-Sensor.is (record { told = rw (kind-sensor c.typed.new.row c.typed.ensures.0, c.typed.ensures.1, c.typed.ensures.2, c.typed.ensures.3); kind = c.typed.ensures.0; name = c.typed.ensures.1 })

pub returns-in-Actuator : goal.returns-in-Actuator
returns-in-Actuator c = rw c.in-Actuator.is (record { told = rw (kind-actuator c.long.new.row c.long.ensures.0, c.long.ensures.1, c.long.ensures.2, c.long.ensures.3, c.long.ensures.4); kind = c.long.ensures.0; name = c.long.ensures.1 })

pub returns-in-TaskBegin : goal.returns-in-TaskBegin
returns-in-TaskBegin c = rw c.in-TaskBegin.is (record { told = rw (kind-task c.named-in-TaskBegin.new.row c.named-in-TaskBegin.ensures.0, c.named-in-TaskBegin.ensures.1); kind = c.named-in-TaskBegin.ensures.0; name = c.named-in-TaskBegin.ensures.1 })

pub returns-in-Input : goal.returns-in-Input
returns-in-Input c = rw c.in-Input.is (record { told = rw (kind-input c.typed-in-Input.new.row c.typed-in-Input.ensures.0, c.typed-in-Input.ensures.1, c.typed-in-Input.ensures.2); kind = c.typed-in-Input.ensures.0; name = c.typed-in-Input.ensures.1 })

pub returns-in-Output : goal.returns-in-Output
returns-in-Output c = rw c.in-Output.is (record { told = rw (kind-output c.long-in-Output.new.row c.long-in-Output.ensures.0, c.long-in-Output.ensures.1, c.long-in-Output.ensures.2, c.long-in-Output.ensures.3); kind = c.long-in-Output.ensures.0; name = c.long-in-Output.ensures.1 })

pub returns-in-TaskEnd : goal.returns-in-TaskEnd
returns-in-TaskEnd c = rw c.in-TaskEnd.is (record { told = rw (kind-task-end c.named-in-TaskEnd.new.row c.named-in-TaskEnd.ensures.0, c.named-in-TaskEnd.ensures.1); kind = c.named-in-TaskEnd.ensures.0; name = c.named-in-TaskEnd.ensures.1 })

pub returns-in-ModeBegin : goal.returns-in-ModeBegin
returns-in-ModeBegin c = rw c.in-ModeBegin.is (record { told = rw (kind-mode c.mode.new.row c.mode.ensures.0, c.mode.ensures.1, c.mode.ensures.2, c.mode.ensures.3, c.mode.ensures.4, c.mode.ensures.5); kind = c.mode.ensures.0; name = c.mode.ensures.3 })

pub returns-in-Activity : goal.returns-in-Activity
returns-in-Activity c = rw c.in-Activity.is (record { told = rw (kind-activity c.placed.new.row c.placed.ensures.0, c.placed.ensures.1, c.placed.ensures.2, c.placed.ensures.3); kind = c.placed.ensures.0; name = c.placed.ensures.3 })

pub returns-in-Guard : goal.returns-in-Guard
returns-in-Guard c = rw c.in-Guard.is (record { told = rw (kind-guard c.counted.new.row c.counted.ensures.0, c.counted.ensures.1, c.counted.ensures.2); kind = c.counted.ensures.0; name = c.counted.ensures.1 })

pub returns-in-GuardArg : goal.returns-in-GuardArg
returns-in-GuardArg c = rw c.in-GuardArg.is (record { told = rw (kind-guard-arg c.argument.new.row c.argument.ensures.0, c.argument.ensures.1); kind = c.argument.ensures.0; name = ap (λ (p : Port). p.first) c.argument.ensures.1 })

pub returns-in-Invoke : goal.returns-in-Invoke
returns-in-Invoke c = rw c.in-Invoke.is (record { told = rw (kind-invoke c.counted-in-Invoke.new.row c.counted-in-Invoke.ensures.0, c.counted-in-Invoke.ensures.1, c.counted-in-Invoke.ensures.2); kind = c.counted-in-Invoke.ensures.0; name = c.counted-in-Invoke.ensures.1 })

pub returns-in-Arg : goal.returns-in-Arg
returns-in-Arg c = rw c.in-Arg.is (record { told = rw (kind-arg c.argument-in-Arg.new.row c.argument-in-Arg.ensures.0, c.argument-in-Arg.ensures.1); kind = c.argument-in-Arg.ensures.0; name = ap (λ (p : Port). p.first) c.argument-in-Arg.ensures.1 })

pub returns-in-Update : goal.returns-in-Update
returns-in-Update c = rw c.in-Update.is (record { told = rw (kind-update c.update.new.row c.update.ensures.0, c.update.ensures.1, c.update.ensures.2); kind = c.update.ensures.0; name = c.update.ensures.1 })

pub returns-in-Switch : goal.returns-in-Switch
returns-in-Switch c = rw c.in-Switch.is (record { told = rw (kind-switch c.named-in-Switch.new.row c.named-in-Switch.ensures.0, c.named-in-Switch.ensures.1); kind = c.named-in-Switch.ensures.0; name = c.named-in-Switch.ensures.1 })

pub returns-in-ModeEnd : goal.returns-in-ModeEnd
returns-in-ModeEnd c = rw c.in-ModeEnd.is (record { told = rw (kind-mode-end c.plain-in-ModeEnd.new.row c.plain-in-ModeEnd.ensures.0); kind = c.plain-in-ModeEnd.ensures.0; name = c.plain-in-ModeEnd.ensures.1 })

pub returns-in-ModuleEnd : goal.returns-in-ModuleEnd
returns-in-ModuleEnd c = rw c.in-ModuleEnd.is (record { told = rw (kind-module-end c.plain-in-ModuleEnd.new.row c.plain-in-ModuleEnd.ensures.0); kind = c.plain-in-ModuleEnd.ensures.0; name = c.plain-in-ModuleEnd.ensures.1 })

pub returns-in-End : goal.returns-in-End
returns-in-End c = rw c.in-End.is (record { told = rw (kind-end c.plain-in-End.new.row c.plain-in-End.ensures.0); kind = c.plain-in-End.ensures.0; name = c.plain-in-End.ensures.1 })

pub returns-in-No : goal.returns-in-No
returns-in-No c = rw c.in-No.is (record { told = rw (kind-no c.placed-in-No.new.row (omega (arith, c.placed-in-No.ensures.0)), c.placed-in-No.ensures.1, c.placed-in-No.ensures.2); kind = c.placed-in-No.ensures.0; name = c.placed-in-No.ensures.3 })
