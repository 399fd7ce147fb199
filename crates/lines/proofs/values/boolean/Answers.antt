use Rattle.std.proofs.Common.{sym, ◌∙◌}
use Rattle.lines.specs.NumbersLaws.{same-is}
use Rattle.lines.specs.Values.{boolean_in}
use Rattle.lines.proofs.values.boolean.Goals as goal

pub returns-then-eq : goal.returns-then-eq
unfolding boolean_in
returns-then-eq c =
    rw c.boolean.ensures (simp (rw (c.as_slice.ensures, same-is) at (sym c.eq.ensures ∙ c.if-eq.true)))

pub returns-then-eq-2 : goal.returns-then-eq-2
unfolding boolean_in
returns-then-eq-2 c =
    rw c.boolean-then-eq-2.ensures (simp (rw (c.as_slice.ensures, same-is) at (sym c.eq.ensures ∙ c.if-eq.false), rw (c.as_slice-else-eq.ensures, same-is) at (sym c.eq-else-eq.ensures ∙ c.if-eq-2.true)))

pub returns-else-eq-2 : goal.returns-else-eq-2
unfolding boolean_in
returns-else-eq-2 c =
    simp (rw (c.as_slice.ensures, same-is) at (sym c.eq.ensures ∙ c.if-eq.false), rw (c.as_slice-else-eq.ensures, same-is) at (sym c.eq-else-eq.ensures ∙ c.if-eq-2.false))
