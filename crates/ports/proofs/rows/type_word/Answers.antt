use Rattle.std.proofs.Common.{arith}
use Rattle.ports.specs.BoardLaws.{type-small}
use Rattle.ports.proofs.rows.type_word.Goals as goal

pub returns : goal.returns
returns c = omega (arith, c.type_named.ensures, c.clamp.ensures, type-small c.args.s.now c.args.typ)
