use mathlib.Core.Path.{sym, ap, ◌∙◌}
use native.Mathlib.Omega.{arith}
use Rattle.lines.specs.Values.{all_values}
use Rattle.lines.specs.ValuesLaws as law
use Rattle.lines.specs.ValuesLaws.{pieces_at}
use Rattle.lines.proofs.values.all_good.Goals as goal

pub loop-at-init : goal.loop-at-init
loop-at-init c = (omega arith, ap all_values (sym (law.pieces-here c.args.word.now 0 (omega arith))))

pub returns-then-is_none : goal.returns-then-is_none
returns-then-is_none c =
    let step = law.pieces_step _ _ _ c.loop-at-test.true c.find-end.ensures in
    let bad = rw (c.one.ensures, c.cut.ensures, c.if-is_none.true) at c.is_none.ensures in
    sym (c.loop-at.invariant.1 ∙ ap all_values step ∙ law.values-out _ _ bad)

pub loop-at-preserved : goal.loop-at-preserved
loop-at-preserved c =
    let step = law.pieces_step _ _ _ c.loop-at-test.true c.find-end.ensures in
    let good = rw (c.one.ensures, c.cut.ensures, c.if-is_none.false) at c.is_none.ensures in
    (omega arith, c.loop-at.invariant.1 ∙ ap all_values step ∙ law.values-on _ _ good)

pub returns : goal.returns
returns c = sym (c.loop-at.invariant.1 ∙ ap all_values (law.pieces_end _ _ c.loop-at-test.false) ∙ law.values-end)
