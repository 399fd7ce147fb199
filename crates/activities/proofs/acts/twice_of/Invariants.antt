use Rattle.std.specs.Prelude.{◌≡◌}
use Rattle.refusals.specs.Twice.{twice_of, twice_from}
use Rattle.activities.proofs.acts.twice_of.Given as goal

abbrev pub invariant-loop-j : goal.invariant-loop-j
invariant-loop-j l = twice_of l.numbers ≡ twice_from l.numbers l.j
