use mir.Facts.{of_z-to_z}
use Rattle.std.proofs.Common.{◌∙◌}
use Rattle.cells.proofs.less.Goals as goal

pub returns : goal.returns
returns c = c.below.ensures ∙ rw (c.int_of-2.ensures, c.int_of.ensures, of_z-to_z c.ranges.left, of_z-to_z c.ranges.right)
