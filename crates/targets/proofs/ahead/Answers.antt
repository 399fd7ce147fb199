use Rattle.std.proofs.Common.{◌≡◌, ◌+◌, ◌-◌, length, sym, refl, ◌∙◌, arith, rules}
use Rattle.text.specs.Items.{items_from}
use Rattle.text.proofs.ItemsLaws.{turn-ahead}
use Rattle.kept.specs.Rows.{state_of, read_of}
use Rattle.kept.specs.Kept.{Kept}
use Rattle.kept.specs.Kinds.{kind-goes, kind-stops}
use Rattle.refusals.specs.Names.{letters}
use Rattle.targets.specs.Ahead.{mode_ahead}
use Rattle.targets.specs.AheadLaws.{entered, quiet_same}
use Rattle.targets.specs.AheadLaws as law
use Rattle.targets.proofs.ahead.Goals as goal

pub loop-place-init : goal.loop-place-init
loop-place-init c = λ kept. refl

pub returns-then-begins : goal.returns-then-begins
returns-then-begins c = λ kept.
    let seen = c.look-seen.ensures.row kept in
    let past = quiet_same _ _ c.loop-place-test.true (c.to_mode-stop.ensures _ kept) in
    sym (entered _ _ _ _ c.number_of-behind.ensures.state (c.loop-place.invariant kept ∙ past.2 ∙ law.ahead-here _ _ _ _ (read_of seen.row) past.0 seen.told (sym (c.begins.ensures seen.row seen.kind seen.from seen.to) ∙ c.if-begins.true)))

pub returns-then-seen-gt18 : goal.returns-then-seen-gt18
returns-then-seen-gt18 c = λ kept.
    let seen = c.look-seen.ensures.row kept in
    let past = quiet_same _ _ c.loop-place-test.true (c.to_mode-stop.ensures _ kept) in
    sym (entered _ _ _ _ c.number_of-behind.ensures.state (c.loop-place.invariant kept ∙ past.2 ∙ law.ahead-stop _ _ _ _ (read_of seen.row) past.0 seen.told (kind-stops seen.row (omega (arith, seen.kind, c.if-seen-gt18.true))) (sym (c.begins.ensures seen.row seen.kind seen.from seen.to) ∙ c.if-begins.false)))

pub returns-then-seen-place : goal.returns-then-seen-place
returns-then-seen-place c = λ kept.
    let seen = c.look-seen.ensures.row kept in
    let past = quiet_same _ (letters c.args.s.now c.args.sought) c.loop-place-test.true (c.to_mode-stop.ensures _ kept) in
    let ahead = turn-ahead _ _ _ (read_of seen.row) past.0 seen.told (kind-goes seen.row (omega (arith, seen.kind, c.if-seen-gt18.false))) in
    absurd (omega (arith, ahead, past.1, seen.next, c.if-seen-place.true))

pub loop-place-smaller : goal.loop-place-smaller
loop-place-smaller c = omega (arith, c.if-seen-place.false, c.loop-place-test.true)

pub loop-place-preserved : goal.loop-place-preserved
loop-place-preserved c = λ kept.
    let seen = c.look-seen.ensures.row kept in
    let past = quiet_same _ _ c.loop-place-test.true (c.to_mode-stop.ensures _ kept) in
    rw (seen.behind, seen.next) (c.loop-place.invariant kept ∙ past.2 ∙ law.ahead-on _ _ _ _ (read_of seen.row) past.0 seen.told (kind-goes seen.row (omega (arith, seen.kind, c.if-seen-gt18.false))) (sym (c.begins.ensures seen.row seen.kind seen.from seen.to) ∙ c.if-begins.false))

pub returns : goal.returns
returns c = λ kept. sym (entered _ _ _ _ c.number_of-behind.ensures.state (c.loop-place.invariant kept ∙ law.ahead-end _ _ _ _ c.loop-place-test.false))
