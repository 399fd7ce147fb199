use Rattle.std.proofs.Common.{sym, ◌∙◌}
use Rattle.calls.specs.Fitting.{rest_goes, rest-fails, rest-none, types-count, words_count, length_part}
use Rattle.calls.proofs.fits.Goals as goal
use Rattle.calls.proofs.fits.Goals.{then-types-n-via-then-types-n, then-types-n-via-else-types-n+then-words-n}

pub returns-then-types-n : goal.returns-then-types-n
returns-then-types-n c =
    elim c.then-types-n.branch [
      | then-types-n-via-then-types-n w ↦ sym (types-count _ _ _ (λ same. w.if-types-n.true (same ∙ length_part _ _ _)))
      | then-types-n-via-else-types-n+then-words-n w ↦ sym (words_count _ _ _ (λ same. w.if-words-n.true (same ∙ length_part _ _ _)))
    ]

pub returns-then-not-fits_one : goal.returns-then-not-fits_one
returns-then-not-fits_one c =
    rest-fails _ _ _ _ _ _ c.loop-i-test.true c.if-types-n.false c.if-words-n.false (rw c.at32.ensures at (sym c.fits_one.ensures ∙ c.if-not-fits_one.true)) ∙ c.loop-i.invariant

pub loop-i-preserved : goal.loop-i-preserved
loop-i-preserved c =
    rest_goes _ _ _ _ _ _ c.loop-i-test.true c.if-types-n.false c.if-words-n.false (rw c.at32.ensures at (sym c.fits_one.ensures ∙ c.if-not-fits_one.false)) ∙ c.loop-i.invariant

pub returns : goal.returns
returns c = rest-none _ _ _ _ _ _ c.loop-i-test.false c.if-types-n.false c.if-words-n.false ∙ c.loop-i.invariant
