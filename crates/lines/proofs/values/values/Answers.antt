use Rattle.std.proofs.Common.{sym, ◌∙◌}
use Rattle.lines.specs.NumbersLaws.{same-is}
use Rattle.lines.specs.ValuesLaws as law
use Rattle.lines.proofs.values.values.Goals as goal

pub returns-then-eq : goal.returns-then-eq
returns-then-eq c =
    law.lists-none _ _ _ (rw (c.as_slice.ensures, same-is, c.cut-word.ensures) at (sym c.eq.ensures ∙ c.if-eq.true))

pub returns-then-not-all_good : goal.returns-then-not-all_good
returns-then-not-all_good c =
    let other = rw (c.as_slice.ensures, same-is, c.cut-word.ensures) at (sym c.eq.ensures ∙ c.if-eq.false) in
    law.lists-not _ _ _ other (rw c.cut-word.ensures at (sym c.all_good.ensures ∙ c.if-not-all_good.true))

pub returns : goal.returns
returns c =
    let cut = c.cut-word.ensures in
    let other = rw (c.as_slice.ensures, same-is, cut) at (sym c.eq.ensures ∙ c.if-eq.false) in
    let all = rw cut at (sym c.all_good.ensures ∙ c.if-not-all_good.false) in
    law.lists-good _ _ _ other _ _ all (rw cut at c.fill-count.ensures) c.min.ensures c.min-2.ensures
