use mathlib.Core.Path.{refl}
use borrow.Author.Tests.{eq-eqb, ne_eqb}
use Rattle.referring.specs.Rows.{readable_in}
use borrow.Author.Rules.{rules}
use Rattle.referring.proofs.readable.Goals as goal

pub returns-then-place-eq0 : goal.returns-then-place-eq0
unfolding readable_in
returns-then-place-eq0 c = rw (eq-eqb _ 0 c.if-place-eq0.true) c.is_source.ensures

pub returns : goal.returns
unfolding readable_in
returns c = rw (ne_eqb _ 0 c.if-place-eq0.false) refl
