use Prim.Native.Nat.{ℕ, ◌+◌, ◌<◌}
use mathlib.Core.Bool.{Bool, true, false, not}
use mathlib.Core.Path.{◌≡◌, sym, ap, ◌∙◌}
use native.Mathlib.Omega.{arith}
use borrow.Author.Tests.{ne_eqb, leb-true, leb-false}
use lib.ListN.{length, get_or}
use lib.Dec.{eqb}
use Rattle.text.specs.declared.Skipped.TheVariants.{Stop}
use Rattle.text.specs.Spaces.{spaces_at}
use Rattle.text.proofs.SpacesLaws as law
use Rattle.scan.proofs.spaces.skip.Goals as goal
use Rattle.scan.proofs.spaces.skip.Goals.{then-b-ne47, else-b-ne47}

pub loop-i-preserved-then-is_white : goal.loop-i-preserved-then-is_white
loop-i-preserved-then-is_white c = c.loop-i.invariant ∙ law.spaces-white _ _ c.loop-i-test.true (sym c.if-is_white.ensures)

pub returns-then-s-i : goal.returns-then-s-i
returns-then-s-i c =
    let s = c.args.s.now in
    let i = c.loop-i.i in
    let stop : spaces_at s i ≡ Stop i = elim c.if-b-ne47.branch [ then-b-ne47 w ↦ law.spaces-other s i c.loop-i-test.true (sym c.if-is_white.ensures) w.if-b-ne47.true | else-b-ne47 w ↦ law.spaces-last s i c.loop-i-test.true w.if-b-ne47.false (leb-true _ _ (sym w.value-is ∙ c.if-s-i.true)) ] in
    sym (c.loop-i.invariant ∙ stop)

not-other : {P : Type 0} (b : ℕ) (test : Bool) → test ≡ false → (b ≡ 47 → ⊥) → test ≡ not (eqb b 47) → P
not-other b test e n is = let q : false ≡ true = sym e ∙ is ∙ ap not (ne_eqb b 47 n) in cc

pub loop-i-preserved-in-47 : goal.loop-i-preserved-in-47
loop-i-preserved-in-47 c =
    let s = c.args.s.now in
    let i = c.loop-i.i in
    let slash : (get_or s i 0 ≡ 47) × (i + 1 < length s) = elim c.if-b-ne47.branch [ then-b-ne47 w ↦ not-other _ _ c.if-s-i.false w.if-b-ne47.true w.value-is | else-b-ne47 w ↦ (w.if-b-ne47.false, leb-false _ _ (sym w.value-is ∙ c.if-s-i.false)) ] in
    let two : i + 1 + 1 ≡ i + 2 = omega arith in
    c.loop-i.invariant ∙ law.spaces-line s i c.loop-i-test.true slash.0 slash.1 c.in-47.is ∙ rw two c.line_end-i.ensures.1

pub loop-i-preserved : goal.loop-i-preserved
loop-i-preserved c =
    let s = c.args.s.now in
    let i = c.loop-i.i in
    let slash : (get_or s i 0 ≡ 47) × (i + 1 < length s) = elim c.if-b-ne47.branch [ then-b-ne47 w ↦ not-other _ _ c.if-s-i.false w.if-b-ne47.true w.value-is | else-b-ne47 w ↦ (w.if-b-ne47.false, leb-false _ _ (sym w.value-is ∙ c.if-s-i.false)) ] in
    let two : i + 1 + 1 ≡ i + 2 = omega arith in
    let ends = c.in-Some.ensures in
    c.loop-i.invariant ∙ law.spaces-block s i c.loop-i-test.true slash.0 slash.1 c.in-42.is ∙ rw two (ends.1 i)

pub returns-in-None : goal.returns-in-None
returns-in-None c =
    let s = c.args.s.now in
    let i = c.loop-i.i in
    let slash : (get_or s i 0 ≡ 47) × (i + 1 < length s) = elim c.if-b-ne47.branch [ then-b-ne47 w ↦ not-other _ _ c.if-s-i.false w.if-b-ne47.true w.value-is | else-b-ne47 w ↦ (w.if-b-ne47.false, leb-false _ _ (sym w.value-is ∙ c.if-s-i.false)) ] in
    let two : i + 1 + 1 ≡ i + 2 = omega arith in
    let opens = rw c.in-None.is at c.block_end.ensures in
    sym (c.loop-i.invariant ∙ law.spaces-block s i c.loop-i-test.true slash.0 slash.1 c.in-42.is ∙ rw two (opens i))

pub returns-in_default : goal.returns-in_default
returns-in_default c =
    let s = c.args.s.now in
    let i = c.loop-i.i in
    let slash : (get_or s i 0 ≡ 47) × (i + 1 < length s) = elim c.if-b-ne47.branch [ then-b-ne47 w ↦ not-other _ _ c.if-s-i.false w.if-b-ne47.true w.value-is | else-b-ne47 w ↦ (w.if-b-ne47.false, leb-false _ _ (sym w.value-is ∙ c.if-s-i.false)) ] in
    sym (c.loop-i.invariant ∙ law.spaces-lone s i c.loop-i-test.true slash.0 slash.1 (λ line. absurd (omega (arith, line))) (λ block. absurd (omega (arith, block))))

pub returns : goal.returns
returns c = sym (c.loop-i.invariant ∙ law.spaces-end _ _ c.loop-i-test.false)
