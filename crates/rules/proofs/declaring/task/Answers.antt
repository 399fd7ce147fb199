use Rattle.rules.specs.Going.{told-broken, told-new}
use Rattle.std.proofs.Math.Path.{refl}
use Rattle.rules.proofs.declaring.task.Goals as goal

pub returns-in_err-new_rules : goal.returns-in_err-new_rules
returns-in_err-new_rules c ix = told-broken c.from_residual.ensures (rw (c.first_name-name.ensures) at c.in_err-new_rules.ensures ix)

pub returns : goal.returns
returns c ix = told-new c.declare.result (rw (c.first_name-name.ensures) at c.in_ok-new_rules.ensures ix) refl c.declare.ensures (rw (c.row_of-task.ensures, c.count-tasks.ensures _ ix, c.first_name-name.ensures))
