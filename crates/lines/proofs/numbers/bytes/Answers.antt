use Rattle.std.proofs.Common.{sym, ◌∙◌}
use Rattle.lines.specs.NumbersLaws as law
use Rattle.lines.proofs.numbers.bytes.Goals as goal
use Rattle.lines.proofs.numbers.bytes.Goals.{else-all_digits-via-then-all_digits+then-word-eq0+else-size-room, else-all_digits-via-then-all_digits+else-word-eq0, else-all_digits-via-else-all_digits}

pub returns-then-eq : goal.returns-then-eq
returns-then-eq c =
    let none = rw (c.as_slice.ensures, law.same-is, c.cut-word.ensures) at (sym c.eq.ensures ∙ c.if-eq.true) in
    law.unspells-none _ _ none

pub returns-then-size-room : goal.returns-then-size-room
returns-then-size-room c =
    let cut = c.cut-word.ensures in
    let other = rw (c.as_slice.ensures, law.same-is, cut) at (sym c.eq.ensures ∙ c.if-eq.false) in
    let digits = rw cut at (sym c.all_digits.ensures ∙ c.if-all_digits.true) in
    rw cut (law.unspells-good _ _ other digits _ (rw cut at c.if-word-eq0.true) (rw cut at c.if-size-room.true) (rw cut at c.fill.ensures))

pub returns-else-all_digits : goal.returns-else-all_digits
returns-else-all_digits c =
    let cut = c.cut-word.ensures in
    let other = rw (c.as_slice.ensures, law.same-is, cut) at (sym c.eq.ensures ∙ c.if-eq.false) in
    elim c.else-all_digits.branch [
      | else-all_digits-via-then-all_digits+then-word-eq0+else-size-room w ↦ law.unspells-long _ _ other (rw cut at (sym c.all_digits.ensures ∙ w.if-all_digits.true)) (rw cut at w.if-word-eq0.true) (rw cut at w.if-size-room.false)
      | else-all_digits-via-then-all_digits+else-word-eq0 w ↦ law.unspells-odd _ _ other (rw cut at (sym c.all_digits.ensures ∙ w.if-all_digits.true)) (rw cut at w.if-word-eq0.false)
      | else-all_digits-via-else-all_digits w ↦ law.unspells-other _ _ other (rw cut at (sym c.all_digits.ensures ∙ w.if-all_digits.false))
    ]
