use mathlib.Core.Path.{◌∙◌}
use Rattle.meanings.proofs.declaring.port_row.Goals as goal

pub returns : goal.returns
returns c ix = c.row_of.ensures ∙ rw (c.type_named.ensures, (c.count-number.ensures _ ix))
