use Rattle.std.proofs.Common.{◌∙◌, rules}
use borrow.Author.Tests.{eq-eqb, ne_eqb}
use Rattle.sheets.specs.Sheets.{word_in}
use Rattle.heads.proofs.word_in.Goals as goal
use Rattle.heads.proofs.word_in.Goals.{in_default-via-in-0+in_default, in_default-via-in_default}

pub returns-in-0-eq1 : goal.returns-in-0-eq1
unfolding word_in
returns-in-0-eq1 c = c.from.ensures ∙ simp (eq-eqb _ _ c.in-0-eq1.is-0, eq-eqb _ _ c.in-0-eq1.is-1) (search rules)

pub returns-in_default : goal.returns-in_default
unfolding word_in
returns-in_default c = elim c.in_default.branch [
  | in_default-via-in-0+in_default w ↦ c.clamp.ensures ∙ simp (eq-eqb _ _ w.in_default.is-0, ne_eqb _ _ w.in_default.is-1.1)
  | in_default-via-in_default w ↦ c.clamp.ensures ∙ simp (ne_eqb _ _ w.in_default.is-0.1)
]
