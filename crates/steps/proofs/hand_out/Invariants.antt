use Rattle.std.proofs.Common.{◌≡◌, ◌+◌}
use Rattle.model.specs.Modules.{place as placed}
use Rattle.machine.specs.Store.{part}
use Rattle.steps.specs.Parts.{left}
use Rattle.steps.proofs.hand_out.Given as goal

abbrev pub invariant-loop-i : goal.invariant-loop-i
invariant-loop-i l = placed (l.to + l.i) (left l.aside l.from l.count l.i) l.ports ≡ placed l.to (part l.aside l.from l.count) l.initial.ports
