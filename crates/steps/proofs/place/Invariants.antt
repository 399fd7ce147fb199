use Rattle.std.proofs.Common.{◌≡◌, ◌+◌, drop, length}
use Rattle.model.specs.Modules.{place as placed}
use Rattle.steps.proofs.place.Given as goal

abbrev pub invariant-loop-i : goal.invariant-loop-i
invariant-loop-i l = placed (l.at + l.i) (drop l.i l.words) l.into ≡ placed l.at l.words l.initial.into
