use Rattle.std.proofs.Common.{◌*◌, ◌≤◌, ◌<◌, length, refl, ap, arith}
use borrow.Author.Tests.{le-leb, lt-leb}
use Rattle.refusals.specs.Names.{letters}
use Rattle.layout.specs.Filling.{stored}
use Rattle.sheets.specs.Sheets.{name_stored}
use Rattle.fields.specs.NameLaws.{row-stored}
use Rattle.heads.proofs.titles.title.Goals as goal

pub returns-then-word-le32 : goal.returns-then-word-le32
unfolding name_stored stored
returns-then-word-le32 c =
    let word = letters c.args.s.now c.args.name in
    let few : length word ≤ 32 = rw c.letters-word.ensures at c.if-word-le32.true in
    rw (le-leb _ _ few) (row-stored c.args.names.now (c.args.number * 33) _ word (ap length c.letters-word.ensures) c.put8.ensures (rw c.letters-word.ensures at c.store.ensures))

pub returns-else-word-le32 : goal.returns-else-word-le32
unfolding name_stored
returns-else-word-le32 c =
    let many : 32 < length (letters c.args.s.now c.args.name) = rw c.letters-word.ensures at c.if-word-le32.false in
    simp (lt-leb _ _ many)
