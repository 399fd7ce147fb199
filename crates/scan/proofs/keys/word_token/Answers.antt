use mathlib.Core.Logic.{inl, inr}
use mathlib.Core.Path.{◌≡◌, sym, ◌∙◌}
use Rattle.text.specs.Words.{keywords}
use Rattle.model.specs.Bytes.{place_in}
use Rattle.scan.specs.KeyMarks as law
use Rattle.scan.specs.Slices as slices
use Rattle.scan.proofs.keys.word_token.Goals as goal

pub returns-then-n-lt2 : goal.returns-then-n-lt2
returns-then-n-lt2 c =
    let word = c.args.word.now in
    let none : place_in keywords 0 word ≡ 22 = elim c.then-n-lt2.either [ inl short ↦ law.too_short word short | inr long ↦ law.too_long word long.1 ] in
    law.no_token word none

pub returns-in-Some : goal.returns-in-Some
returns-in-Some c = law.candidate_token c.args.word.now c.in-Some.keyword c.in-Some.token (rw c.in-Some.is at c.candidate.ensures) (slices.same-pointwise _ _ ∙ sym c.alike.ensures ∙ c.if-alike.true)

pub returns-in_default : goal.returns-in_default
returns-in_default c = law.candidate-other c.args.word.now c.in-Some.keyword c.in-Some.token (rw c.in-Some.is at c.candidate.ensures) (slices.same-pointwise _ _ ∙ sym c.alike.ensures ∙ c.if-alike.false)

pub returns-in_default-2 : goal.returns-in_default-2
returns-in_default-2 c = law.candidate-none c.args.word.now (rw c.in_default.is at c.candidate.ensures)
