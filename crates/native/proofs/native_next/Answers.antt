use Rattle.std.proofs.Common.{◌≡◌, ℕ, List, [], ◌∷◌, ap, ◌∙◌}
use Rattle.machine.specs.Answers.{turn_means}
use Rattle.machine.specs.Told.{Turn}
use Rattle.machine.specs.Calls.{Handed, next_task}
use Rattle.calls.specs.Edges.{SameHanded, next-alone, next-stands}
use Rattle.calls.specs.Lent.{sets_handed}
use Rattle.calls.specs.States.{state_by}
use Rattle.native.specs.Faces.{face_of}
use Rattle.native.proofs.native_next.Goals as goal

pub returns-clause-answer : goal.returns-clause-answer
returns-clause-answer c = λ numbers ports aside.
    let ran = rw c.standing_in-at.ensures at (c.next_on-answer.ensures ports aside) in
    c.turn_face.ensures
    ∙ ap (λ (t : Handed). face_of (turn_means t.answer)) ran
    ∙ ap (λ (a : Turn). face_of (turn_means a)) (next-alone (0 ∷ 0 ∷ 0 ∷ 0 ∷ 0 ∷ []) numbers c.args.marks.now c.args.sets.now ports aside).answer

pub returns-clause-sets : goal.returns-clause-sets
returns-clause-sets c = λ numbers ports aside.
    let ran = rw c.standing_in-at.ensures at (c.next_on-answer.ensures ports aside) in
    c.write_handed.ensures ports aside ∙ ap (sets_handed c.args.sets.now) ran ∙ (next-alone (0 ∷ 0 ∷ 0 ∷ 0 ∷ 0 ∷ []) numbers c.args.marks.now c.args.sets.now ports aside).tasks

pub returns-clause-state : goal.returns-clause-state
returns-clause-state c = λ numbers ports aside.
    let a = c.args in
    let ran = rw c.standing_in-at.ensures at (c.next_on-answer.ensures ports aside) in
    ap (λ (sets : List ℕ). state_by numbers a.marks.now sets ports aside)
    (c.write_handed.ensures ports aside ∙ ap (sets_handed a.sets.now) ran ∙ (next-alone (0 ∷ 0 ∷ 0 ∷ 0 ∷ 0 ∷ []) numbers a.marks.now a.sets.now ports aside).tasks)
    ∙ next-stands numbers a.marks.now a.sets.now ports aside
