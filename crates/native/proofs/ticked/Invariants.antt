use Rattle.std.proofs.Common.{◌≡◌, ◌-◌}
use Rattle.native.specs.Copies.{ticks_from}
use Rattle.native.proofs.ticked.Given as goal

abbrev pub invariant-loop-k : goal.invariant-loop-k
invariant-loop-k l = ticks_from l.later l.types l.words (l.times - l._k) l.machine ≡ ticks_from l.later l.types l.words l.times l.initial.machine
