use borrow.Author.Tests.{eq-eqb, ne_eqb}
use Rattle.sheets.specs.Sheets.{place_of}
use Rattle.heads.proofs.place_of.Goals as goal

pub returns-in-0-eq1 : goal.returns-in-0-eq1
unfolding place_of
returns-in-0-eq1 c = simp (eq-eqb _ _ c.in-0-eq1.is-0, eq-eqb _ _ c.in-0-eq1.is-1)

pub returns-in-0-default : goal.returns-in-0-default
unfolding place_of
returns-in-0-default c = simp (eq-eqb _ _ c.in-0-default.is-0, ne_eqb _ _ c.in-0-default.is-1.1)

pub returns-in_default : goal.returns-in_default
unfolding place_of
returns-in_default c = simp (ne_eqb _ _ c.in_default.is-0.1)
