-- How many values a call has.
use Rattle.std.specs.Prelude.{◌≤◌}
use Rattle.erun.specs.declared.asking.Call.{Call}
use Rattle.erun.specs.declared.asking.Call.TheVariants.{Finish}
use Rattle.erun.specs.declared.asking.Line.{Line}
use Rattle.erun.specs.declared.asking.Line.TheVariants.{Call as Calls}

-- the results of a call fill one row of 32 at most
abbrev pub FillsRow : Call → Type 0
FillsRow (Finish task many results) = many ≤ 32
FillsRow _ = Unit {0}

-- so do those of the call that a line asks for
abbrev pub AsksRow : Line → Type 0
AsksRow (Calls call) = FillsRow call
AsksRow _ = Unit {0}
