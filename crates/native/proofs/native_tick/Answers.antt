use Rattle.std.proofs.Common.{List, [], ap, ◌∙◌}
use Rattle.machine.specs.Calls.{Ticked}
use Rattle.steps.specs.Rows.{board_by}
use Rattle.calls.specs.States.{state_of, state_by, served}
use Rattle.calls.specs.Lent.{Lent, lent, lent_by}
use Rattle.calls.specs.Edges.{ticked-stands}
use Rattle.native.specs.Faces.{tick_face}
use Rattle.native.proofs.native_tick.Goals as goal

pub returns : goal.returns
returns c =
    let a = c.args in
    let ports = c.tick_on-answer.new.ports in
    let aside = a.aside.now in
    let board = board_by a.instructions a.code.now a.drivers.now a.guards.now a.modes.now a.tasks.now a.wanted.now [] a.sensors 0 in
    let after = served c.tick_on-answer.result (state_of c.tick_on-answer.new.at ports aside) in
    let ran = rw c.standing_in-at.ensures at c.tick_on-answer.ensures in
    let back = c.write_ticked.ensures ports aside in
    record {
      answer = c.tick_face.ensures ∙ ap tick_face ran;
      state =
          ap (λ (l : Lent). state_by l.numbers l.marks l.sets ports aside) back
          ∙ ticked-stands a.numbers.now a.marks.now a.sets.now board a.ports.now aside a.count a.types.now a.words.now after ran
          ∙ ap (λ (t : Ticked). t.state) ran;
      lent = back ∙ ap (lent_by (lent a.numbers.now a.marks.now a.sets.now)) ran;
    }
