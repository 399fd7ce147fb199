use Rattle.std.proofs.Common.{min}
use Rattle.ports.specs.Boards.{short_part}
use Rattle.refusals.specs.Names.{letters}
use Rattle.ports.specs.BoardLaws.{take-few}
use Rattle.ports.proofs.rows.short.Goals as goal

pub returns-clause-name : goal.returns-clause-name
unfolding short_part
returns-clause-name c = rw (c.min.ensures, c.letters-word.ensures) (take-few 32 (letters c.args.s.now c.args.name))
