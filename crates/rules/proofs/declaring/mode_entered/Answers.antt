use Rattle.meanings.specs.declared.declaring.Declaration.TheVariants.{One}
use Rattle.std.proofs.Common.{rules}
use Rattle.rules.proofs.declaring.mode_entered.Goals as goal

pub returns : goal.returns
returns c = λ ix start at digits milli. record { declaration = One c.row_of-mode.result; declared = rw (c.row_of-mode.ensures, c.count-modes.ensures _ ix); entered = c.declare.ensures }
