use lib.ListN.{get_or-eq_default}
use mathlib.Core.Path.{sym}
use native.Mathlib.Omega.{arith}
use borrow.Author.Rules.{rules}
use Rattle.bits.proofs.word_at.Goals as goal

pub returns-else-i-words : goal.returns-else-i-words
returns-else-i-words c = sym (get_or-eq_default c.args.words.now 0 {n = c.args.i} (omega arith))
