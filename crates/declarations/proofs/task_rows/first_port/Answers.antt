use Rattle.declarations.specs.Stores.{first_port}
use native.Mathlib.Omega.{arith}
use Rattle.declarations.proofs.task_rows.first_port.Goals as goal

pub returns : goal.returns
unfolding first_port
returns c = (c.min.ensures, omega (arith, c.min.ensures))
