use Rattle.rules.specs.Going.{told-broken, told-new}
use Rattle.std.proofs.Math.Path.{refl}
use Rattle.rules.proofs.declaring.output.Goals as goal

pub returns-in_err-output_rules : goal.returns-in_err-output_rules
returns-in_err-output_rules c ix = told-broken c.from_residual.ensures (rw (c.first_name-typ.ensures, c.second_name-name.ensures, c.second_value-value.ensures) at c.in_err-output_rules.ensures ix)

pub returns : goal.returns
returns c ix = told-new c.declare.result (rw (c.first_name-typ.ensures, c.second_name-name.ensures, c.second_value-value.ensures) at c.in_ok-output_rules.ensures ix) refl c.declare.ensures (rw (c.port_row-port.ensures ix, c.count-tasks.ensures _ ix, c.first_name-typ.ensures, c.second_name-name.ensures))
