use mathlib.Core.Path.{◌≡◌}
use Rattle.text.specs.Spaces.{line_at}
use Rattle.scan.proofs.spaces.line_end.Given as goal

abbrev pub invariant-loop-i : goal.invariant-loop-i
invariant-loop-i l = line_at l.s l.at ≡ line_at l.s l.i
