use borrow.Author.Rules.{rules}
use Rattle.names.specs.Index.{Letters}
use Rattle.names.specs.Tables.{row_at}
use Rattle.names.specs.Hashing.{named-short}
use Rattle.std.proofs.Common.{sym, ◌∙◌}
use Rattle.names.proofs.is_named.Goals as goal

pub returns-then-word-le8 : goal.returns-then-word-le8
unfolding row_at
returns-then-word-le8 c t k =
    let name = c.part-name.result.now in
    let word = c.args.word.now in
    let letters : Letters name = record { bytes = λ i. search rules } in
    let own : Letters word = record { bytes = λ i. search rules } in
    let is = named-short name word letters own c.if-name-word.true c.if-word-le8.true (rw c.part-name.ensures k) in
    rw c.part-name.ensures at is

pub returns-else-word-le8 : goal.returns-else-word-le8
unfolding row_at
returns-else-word-le8 c t k = sym c.same.ensures ∙ t
