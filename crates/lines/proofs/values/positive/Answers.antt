use borrow.Author.Tests.{lt-ltb, le-ltb}
use Rattle.std.proofs.Common.{◌∙◌}
use Rattle.lines.specs.Values.{positive_of}
use Rattle.lines.proofs.values.positive.Goals as goal

pub returns-then-size-lt2147483648 : goal.returns-then-size-lt2147483648
unfolding positive_of
returns-then-size-lt2147483648 c = c.int.ensures ∙ simp (lt-ltb _ _ c.if-size-lt2147483648.true)

pub returns-else-size-lt2147483648 : goal.returns-else-size-lt2147483648
unfolding positive_of
returns-else-size-lt2147483648 c = simp (le-ltb _ _ c.if-size-lt2147483648.false)
