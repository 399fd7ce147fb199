use Rattle.rules.specs.Going.{told-broken, told-new}
use Rattle.std.proofs.Math.Path.{refl}
use Rattle.rules.proofs.declaring.constant.Goals as goal

pub returns-in_err-constant_rules : goal.returns-in_err-constant_rules
returns-in_err-constant_rules c ix = told-broken c.from_residual.ensures (rw (c.first_name-name.ensures, c.first_value-value.ensures) at c.in_err-constant_rules.ensures ix)

pub returns : goal.returns
returns c ix = told-new c.declare.result (rw (c.first_name-name.ensures, c.first_value-value.ensures) at c.in_ok-constant_rules.ensures ix) refl c.declare.ensures (rw (c.row_of-constant.ensures, c.literal_word-word.ensures ix, c.literal_type-typ.ensures ix, c.first_value-value.ensures, c.first_name-name.ensures))
