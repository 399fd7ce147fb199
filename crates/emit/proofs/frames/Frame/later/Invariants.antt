use Rattle.std.proofs.Common.{◌≡◌, ◌+◌, ◌-◌, ◌*◌, ◌≤◌}
use Rattle.timing.specs.Code.{later_blocks, instants_of}
use Rattle.emit.specs.Emitted.{listed, emitted}
use Rattle.emit.specs.Frames.{mode_in}
use Rattle.emit.proofs.Instants.{Left}
use Rattle.emit.proofs.frames.Frame.later.Given as goal

abbrev pub invariant-loop-t : goal.invariant-loop-t
invariant-loop-t l =
    let mode = mode_in l.acts l.self in
    record {
      left : Left l.self.driver mode l.begin (emitted (listed l.initial.code) (later_blocks l.self.driver mode l.begin (instants_of mode))) (listed l.code) l.t;
      on : l.initial.code.pc ≤ l.code.pc;
      few : l.code.pc ≤ l.initial.code.pc + 388 * l.t;
      inside : l.t ≤ l.self.period;
      same : l.code.cells.ghost_name ≡ l.initial.code.cells.ghost_name;
    }

abbrev pub decreases-loop-t : goal.decreases-loop-t
decreases-loop-t l = l.self.period - l.t
