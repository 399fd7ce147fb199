use Rattle.std.proofs.Common.{◌≡◌, ◌+◌}
use Rattle.model.specs.Modules.{copy_to}
use Rattle.machine.specs.Store.{part}
use Rattle.steps.specs.Parts.{left}
use Rattle.steps.proofs.copy_in.Given as goal

abbrev pub invariant-loop-i : goal.invariant-loop-i
invariant-loop-i l = copy_to (l.to + l.i) (left l.drivers l.from l.count l.i) l.ports ≡ copy_to l.to (part l.drivers l.from l.count) l.initial.ports
