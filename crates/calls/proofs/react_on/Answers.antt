use Rattle.std.proofs.Common.{ap, ◌∙◌}
use Rattle.steps.specs.Steps.{board_of}
use Rattle.calls.specs.States.{state_of, closed, closes-reaction}
use Rattle.calls.proofs.react_on.Goals as goal

pub returns-in-Ok : goal.returns-in-Ok
returns-in-Ok c =
    let a = c.args in
    let m = state_of a.at.now a.ports.now a.aside.now in
    (rw c.in-Ok.is at (ap (closed m a.count) c.react.ensures)) ∙ closes-reaction (board_of a.program.now) m a.count a.words.now

pub returns-in-Err : goal.returns-in-Err
returns-in-Err c =
    let a = c.args in
    let m = state_of a.at.now a.ports.now a.aside.now in
    rw (c.stop.ensures.answer, c.stop.ensures.standing)
    ((rw c.in-Err.is at (ap (closed m a.count) c.react.ensures)) ∙ closes-reaction (board_of a.program.now) m a.count a.words.now)
