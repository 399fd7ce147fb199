use Rattle.std.proofs.Common.{ap, sym, ◌∙◌, refl}
use Rattle.machine.specs.Answers.{reaction_means}
use Rattle.machine.specs.Boards.{Board}
use Rattle.machine.specs.Calls as C
use Rattle.machine.specs.Calls.{reacted}
use Rattle.machine.specs.Starts.{fresh}
use Rattle.calls.specs.States.{reacted-alone}
use Rattle.emachine.specs.Machines.{board_in, start_by, ticked_on}
use Rattle.emachine.specs.Meanings.{start_means, due-means}
use Rattle.emachine.specs.declared.Ticked.{Ticked}
use Rattle.emachine.proofs.start_on.Goals as goal

pub returns-then-not-sound : goal.returns-then-not-sound
unfolding start_means
returns-then-not-sound c =
    let unsound = c.if-not-sound.true in record { machine = c.refused.ensures ∙ rw unsound refl; means = ap (λ (r : Ticked). reaction_means r.answer) c.refused.ensures ∙ rw unsound refl }

pub returns-then-not-fits : goal.returns-then-not-fits
unfolding start_means
returns-then-not-fits c =
    let sound = c.if-not-sound.false in
    let unfit = sym c.fits.ensures ∙ c.if-not-fits.true in record { machine = c.refused-then-not-fits.ensures ∙ rw (sound, unfit) refl; means = ap (λ (r : Ticked). reaction_means r.answer) c.refused-then-not-fits.ensures ∙ rw (sound, unfit) refl }

pub returns : goal.returns
unfolding start_means
returns c =
    let a = c.args in
    let t = a.table in
    let sound = c.if-not-sound.false in
    let fit = sym c.fits.ensures ∙ c.if-not-fits.false in
    let served =
    (rw (c.program_of-program.ensures.reacts, c.begin-standing.ensures, c.begin_of.ensures, c.program_of-program.ensures.modes, c.start_mode-mode.ensures) at c.react_on-answer.ensures)
    ∙ reacted-alone t.instructions t.code t.driver_rows t.guard_rows t.mode_rows t.task_rows t.types t.starts t.sensors (start_by t.mode_rows 0 t.modes) (fresh (board_in t) a.count) a.count a.words.now in
    record { machine = ap (ticked_on t) (served ∙ rw (sound, fit) refl); means = ap (λ (r : C.Ticked). reaction_means r.answer) served ∙ due-means (board_in t) (fresh (board_in t) a.count) a.count a.words.now ∙ rw (sound, fit) refl }
