use Rattle.std.proofs.Common.{◌≡◌, ℕ, List, [], ◌∷◌, ap, ap₂, ◌∙◌}
use Rattle.machine.specs.Answers.{finishing_means}
use Rattle.machine.specs.Told.{Finishing}
use Rattle.machine.specs.Calls.{Finished, finish}
use Rattle.steps.specs.Rows.{board_by}
use Rattle.calls.specs.Edges.{SameFinished, finish-by-sets, finish-stands}
use Rattle.calls.specs.Lent.{sets_finished}
use Rattle.calls.specs.States.{state_by}
use Rattle.native.specs.Faces.{face_of}
use Rattle.native.proofs.native_finish.Goals as goal

pub returns-clause-answer : goal.returns-clause-answer
returns-clause-answer c = λ numbers ports.
    let a = c.args in
    let board = board_by 0 [] [] [] [] a.tasks.now a.wanted.now [] 0 0 in
    let ran = rw c.standing_in-at.ensures at (c.finish_on-answer.ensures ports) in
    c.finish_face.ensures
    ∙ ap (λ (t : Finished). face_of (finishing_means t.answer)) ran
    ∙ ap (λ (x : Finishing). face_of (finishing_means x)) (finish-by-sets (0 ∷ 0 ∷ 0 ∷ 0 ∷ 0 ∷ []) numbers a.marks.now a.sets.now board ports a.aside.now a.task a.types.now a.words.now).answer

pub returns-clause-sets : goal.returns-clause-sets
returns-clause-sets c = λ numbers ports.
    let a = c.args in
    let board = board_by 0 [] [] [] [] a.tasks.now a.wanted.now [] 0 0 in
    let ran = rw c.standing_in-at.ensures at (c.finish_on-answer.ensures ports) in
    c.write_finished.ensures ports c.finish_on-answer.new.aside
    ∙ ap (sets_finished a.sets.now) ran
    ∙ (finish-by-sets (0 ∷ 0 ∷ 0 ∷ 0 ∷ 0 ∷ []) numbers a.marks.now a.sets.now board ports a.aside.now a.task a.types.now a.words.now).tasks

pub returns-clause-state : goal.returns-clause-state
returns-clause-state c = λ numbers ports.
    let a = c.args in
    let board = board_by 0 [] [] [] [] a.tasks.now a.wanted.now [] 0 0 in
    let ran = rw c.standing_in-at.ensures at (c.finish_on-answer.ensures ports) in
    let alone = finish-by-sets (0 ∷ 0 ∷ 0 ∷ 0 ∷ 0 ∷ []) numbers a.marks.now a.sets.now board ports a.aside.now a.task a.types.now a.words.now in
    ap₂ (λ (sets aside : List ℕ). state_by numbers a.marks.now sets ports aside)
    (c.write_finished.ensures ports c.finish_on-answer.new.aside ∙ ap (sets_finished a.sets.now) ran ∙ alone.tasks)
    (ap (λ (t : Finished). t.state.aside) ran ∙ alone.aside)
    ∙ finish-stands numbers a.marks.now a.sets.now ports a.aside.now board a.task a.types.now a.words.now
