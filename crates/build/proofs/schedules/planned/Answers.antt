use Rattle.std.proofs.Common.{rules, ◌∙◌}
use Rattle.kept.specs.Rows.{state_of}
use Rattle.build.specs.Lent.{lent-kept}
use Rattle.build.proofs.schedules.planned.Goals as goal

pub returns : goal.returns
unfolding state_of
returns c kept ix =
    let walk = c.along-walked.ensures.run (lent-kept c.held.result c.held.ensures.0 kept) ix in
    let done = rw c.nothing.ensures at (c.rest.ensures.run kept ix ∙ walk) in
    search (rules, done)
