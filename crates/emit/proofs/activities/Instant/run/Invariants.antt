use Rattle.std.proofs.Common.{◌≡◌, ◌+◌, ◌-◌, ◌*◌, ◌≤◌}
use Rattle.timing.specs.Slots.{soonest}
use Rattle.emit.specs.Rows.{acts_by}
use Rattle.emit.specs.Emitted.{listed, emitted}
use Rattle.emit.specs.Lines.{lines}
use Rattle.emit.proofs.Going.{Going}
use Rattle.emit.proofs.activities.Instant.run.Given as goal

abbrev pub invariant-loop-i : goal.invariant-loop-i
invariant-loop-i l =
    let period = l.self.frame.period in
    let acts = l.self.acts.now in
    record {
      going :
          Going l.group.kind period l.self.t acts
          (emitted (listed l.initial.code) (lines l.group.kind period l.self.t l.group.driver (acts_by acts l.group.row l.group.count)))
          (soonest period l.self.t (acts_by acts l.group.row l.group.count) l.soon)
          (l.group.row + l.i) (l.group.driver + l.i) (l.group.count - l.i) (listed l.code) l.next;
      on : l.initial.code.pc ≤ l.code.pc;
      few : l.code.pc ≤ l.initial.code.pc + 3 * l.i;
      soon : l.next ≤ l.soon;
      same : l.code.cells.ghost_name ≡ l.initial.code.cells.ghost_name;
    }
