use mathlib.Core.Path.{sym, ◌∙◌}
use native.Mathlib.Omega.{arith}
use Rattle.text.proofs.WordsLaws as law
use Rattle.scan.specs.Slices as slices
use Rattle.scan.proofs.words.alike.Goals as goal

pub returns-then-word-other : goal.returns-then-word-other
returns-then-word-other c = sym (law.same-lengths _ _ (λ p. c.if-word-other.true p))

pub returns-then-word-j : goal.returns-then-word-j
returns-then-word-j c = sym (c.loop-j.invariant.1 ∙ slices.same-stops c.args.word.now c.args.other.now c.loop-j.j (omega arith) (omega arith) c.if-word-j.true)

pub loop-j-preserved : goal.loop-j-preserved
loop-j-preserved c = (omega arith, c.loop-j.invariant.1 ∙ slices.same-next c.args.word.now c.args.other.now c.loop-j.j (omega arith) (omega arith) c.if-word-j.false)

pub returns : goal.returns
returns c = sym (c.loop-j.invariant.1 ∙ slices.same-over c.args.word.now c.args.other.now c.loop-j.j (omega arith) (omega arith))
