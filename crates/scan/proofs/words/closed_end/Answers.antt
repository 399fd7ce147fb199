use mathlib.Core.Path.{◌∙◌}
use native.Mathlib.Omega.{arith}
use lib.ListN.{get_or}
use Rattle.text.specs.Words.{word_byte}
use Rattle.text.proofs.WordsLaws as words
use Rattle.scan.specs.WordBytes as law
use Rattle.scan.proofs.words.closed_end.Goals as goal

pub loop-i-preserved : goal.loop-i-preserved
loop-i-preserved g c =
    let s = c.args.s.now in
    let i = c.loop-i.i in
    let word = c.requires.words (get_or s i 0) (omega (arith, c.type_inv.s i)) c.loop-i-test.ensures in
    (omega arith, law.further s i c.requires.closed.last c.loop-i.invariant.1 word, c.loop-i.invariant.2 ∙ words.munch-on word_byte s i c.loop-i.invariant.1 word)
