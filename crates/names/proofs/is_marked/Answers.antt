use Rattle.std.proofs.Common.{eq-eqb}
use Rattle.names.specs.Tables.{row_at}
use Rattle.names.proofs.is_marked.Goals as goal

pub returns-then-cells-first : goal.returns-then-cells-first
unfolding row_at
returns-then-cells-first c = simp (eq-eqb _ _ c.if-cells-first.true)
