use Rattle.std.proofs.Common.{◌≡◌, ◌≤◌, length}
use Rattle.text.specs.Items.{items_from}
use Rattle.kept.specs.Rows.{state_of}
use Rattle.names.specs.Index.{Indexed}
use Rattle.sheets.specs.Sheets.{sheet_of, SameArrays}
use Rattle.build.specs.Walks.{sheet_run}
use Rattle.build.specs.Lent.{Lent, Away}
use Rattle.build.proofs.schedules.Source.along.Given as goal

abbrev pub invariant-loop-k : goal.invariant-loop-k
invariant-loop-k l =
    let s = l.self.s.now in
    let cells = l.self.cells.now in
    record {
      ahead : Away l.initial.walked.state l.initial.walked.at l.k l.walked.state l.walked.at;
      few : l.walked.at ≤ length s → l.walked.declared ≤ l.walked.at;
      run :
          Lent s l.lent l.first l.many → Indexed s cells
          → sheet_run s cells l.self.all l.walked.declared (items_from s (state_of l.walked.state) l.walked.at) (sheet_of l.arrays)
          ≡ sheet_run s cells l.self.all l.initial.walked.declared (items_from s (state_of l.initial.walked.state) l.initial.walked.at) (sheet_of l.initial.arrays);
      same : SameArrays l.arrays l.initial.arrays;
    }
