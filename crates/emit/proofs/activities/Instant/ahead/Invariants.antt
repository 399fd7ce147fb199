use Rattle.std.proofs.Common.{◌≡◌, ◌+◌, ◌-◌, ◌≤◌}
use Rattle.timing.specs.Slots.{soonest}
use Rattle.emit.specs.Rows.{acts_by}
use Rattle.emit.proofs.activities.Instant.ahead.Given as goal

abbrev pub invariant-loop-i : goal.invariant-loop-i
invariant-loop-i l =
    let period = l.self.frame.period in
    let acts = l.self.acts.now in
    record {
      ends :
          soonest period l.self.t (acts_by acts (l.group.row + l.i) (l.group.count - l.i)) l.next
          ≡ soonest period l.self.t (acts_by acts l.group.row l.group.count) l.soon;
      soon : l.next ≤ l.soon;
    }
