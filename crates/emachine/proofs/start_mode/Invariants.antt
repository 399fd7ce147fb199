use Rattle.std.proofs.Common.{◌≡◌, ◌-◌}
use Rattle.emachine.specs.Machines.{start_by}
use Rattle.emachine.proofs.start_mode.Given as goal

abbrev pub invariant-loop-mode : goal.invariant-loop-mode
invariant-loop-mode l = start_by l.modes l.mode (l.count - l.mode) ≡ start_by l.modes 0 l.count
