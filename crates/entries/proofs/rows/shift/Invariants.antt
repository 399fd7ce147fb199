use Rattle.std.proofs.Common.{◌≡◌}
use Rattle.sheets.specs.Sheets.{raised}
use Rattle.entries.proofs.rows.shift.Given as goal

abbrev pub invariant-loop-left : goal.invariant-loop-left
invariant-loop-left l = raised l.place l.width l.left l.rows ≡ raised l.place l.width l.count l.initial.rows
