use Rattle.std.proofs.Common.{ap, length}
use Rattle.layout.specs.Filling.{stored}
use Rattle.fields.specs.NameLaws.{row-stored}
use Rattle.ports.specs.Boards.{short_name}
use Rattle.ports.proofs.rows.name_row.Goals as goal

pub returns : goal.returns
unfolding stored
returns c =
    let word = short_name c.args.s.now c.args.name in
    row-stored c.args.names.now c.args.place _ word (ap length c.short-word.ensures.name) c.put8.ensures (rw c.short-word.ensures.name at c.store.ensures)
