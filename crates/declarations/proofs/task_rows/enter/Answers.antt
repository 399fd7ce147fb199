use mathlib.Core.Path.{◌∙◌}
use Prim.Native.Nat.{◌*◌}
use Rattle.fields.specs.CellLaws as cells
use Rattle.declarations.proofs.task_rows.enter.Goals as goal

pub returns-clause-rows : goal.returns-clause-rows
returns-clause-rows c = c.put32-4.ensures ∙ rw (c.put32-3.ensures, c.put32-2.ensures, c.put32.ensures) (cells.cells-four c.args.rows.now (c.args.k * 4) _ _ _ _)
