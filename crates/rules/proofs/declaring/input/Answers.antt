use Rattle.rules.specs.Going.{told-broken, told-new}
use Rattle.std.proofs.Math.Path.{refl}
use Rattle.rules.proofs.declaring.input.Goals as goal

pub returns-in_err-input_rules : goal.returns-in_err-input_rules
returns-in_err-input_rules c ix = told-broken c.from_residual.ensures (rw (c.first_name-typ.ensures, c.second_name-name.ensures) at c.in_err-input_rules.ensures ix)

pub returns : goal.returns
returns c ix = told-new c.declare.result (rw (c.first_name-typ.ensures, c.second_name-name.ensures) at c.in_ok-input_rules.ensures ix) refl c.declare.ensures (rw (c.port_row-port.ensures ix, c.count-tasks.ensures _ ix, c.first_name-typ.ensures, c.second_name-name.ensures))
