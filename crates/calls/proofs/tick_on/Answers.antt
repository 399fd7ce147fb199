use Rattle.std.proofs.Common.{List, [], refl, sym, ◌∙◌}
use Rattle.model.specs.Clock.{elapsed, judged}
use Rattle.machine.specs.Calls.{tick}
use Rattle.cells.specs.Instants.{early-is, due-is, missed-is}
use Rattle.calls.specs.States.{state_of, tick-due}
use Rattle.calls.proofs.tick_on.Goals as goal

pub returns-then-at : goal.returns-then-at
unfolding tick
returns-then-at c = rw c.if-at.true refl

pub returns-then-not-fits : goal.returns-then-not-fits
unfolding tick
returns-then-not-fits c = rw (c.if-at.false, sym c.fits.ensures ∙ c.if-not-fits.true) refl

pub returns-in-Early : goal.returns-in-Early
unfolding tick
returns-in-Early c =
    let at = c.args.at.now in
    rw (c.if-at.false, sym c.fits.ensures ∙ c.if-not-fits.false, early-is (judged (elapsed at.clock c.args.count) at.remaining) _ (sym c.judge.ensures ∙ c.in-Early.is)) refl

pub returns-in-Due : goal.returns-in-Due
returns-in-Due c =
    let a = c.args in
    let p = a.program.now in
    c.react_on-answer.ensures
    ∙ tick-due p.instructions p.code.now p.drivers.now p.guards.now p.modes.now p.tasks.now p.types.now [] p.sensors 0 (state_of a.at.now a.ports.now a.aside.now) a.count a.types.now a.words.now c.if-at.false (sym c.fits.ensures ∙ c.if-not-fits.false) (due-is _ (sym c.judge.ensures ∙ c.in-Due.is))

pub returns-in-Missed : goal.returns-in-Missed
unfolding tick
returns-in-Missed c =
    let at = c.args.at.now in
    rw (c.if-at.false, sym c.fits.ensures ∙ c.if-not-fits.false, missed-is (judged (elapsed at.clock c.args.count) at.remaining) (sym c.judge.ensures ∙ c.in-Missed.is)) refl
