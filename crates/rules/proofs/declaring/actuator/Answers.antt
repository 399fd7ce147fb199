use Rattle.rules.specs.Going.{told-broken, told-new}
use Rattle.std.proofs.Math.Path.{refl}
use Rattle.rules.proofs.declaring.actuator.Goals as goal

pub returns-in_err-actuator_rules : goal.returns-in_err-actuator_rules
returns-in_err-actuator_rules c ix = told-broken c.from_residual.ensures (rw (c.first_name-typ.ensures, c.second_name-name.ensures, c.second_value-value.ensures, c.last_name-setter.ensures) at c.in_err-actuator_rules.ensures ix)

pub returns : goal.returns
returns c ix = told-new c.declare.result (rw (c.first_name-typ.ensures, c.second_name-name.ensures, c.second_value-value.ensures, c.last_name-setter.ensures) at c.in_ok-actuator_rules.ensures ix) refl c.declare.ensures (rw (c.port_row-port.ensures ix, c.first_name-typ.ensures, c.second_name-name.ensures))
