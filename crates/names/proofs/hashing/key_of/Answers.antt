use Rattle.names.specs.Hashing.{key-none, key-three, key-eight, key_more}
use Rattle.std.proofs.Common.{◌∙◌}
use Rattle.names.proofs.hashing.key_of.Goals as goal

pub returns-then-n-eq0 : goal.returns-then-n-eq0
returns-then-n-eq0 c = key-none c.args.word.now c.if-n-eq0.true

pub returns-then-n-lt4 : goal.returns-then-n-lt4
returns-then-n-lt4 c = c.three.ensures ∙ key-three c.args.word.now c.if-n-lt4.true

pub returns-then-n-le8 : goal.returns-then-n-le8
returns-then-n-le8 c = c.eight-ends.ensures ∙ key-eight c.args.word.now c.if-n-lt4.false c.if-n-le8.true

pub returns : goal.returns
returns c = rw (c.eight.ensures, c.eight-ends.ensures) (key_more c.args.word.now c.if-n-le8.false)
