use Rattle.std.proofs.Common.{◌∙◌}
use borrow.Author.Tests.{ne_eqb}
use Rattle.emit.specs.declared.activities.Kind.TheVariants.{Release}
use Rattle.emit.proofs.Divided.{never-due, begin-due}
use Rattle.emit.proofs.slots.begins.Goals as goal

pub returns-then-slots-length : goal.returns-then-slots-length
returns-then-slots-length c = begin-due _ _ _ _ c.requires c.if-slots-length.true

pub returns-else-slots-length : goal.returns-else-slots-length
returns-else-slots-length c = ne_eqb _ _ c.if-slots-length.false ∙ never-due Release _ _ _ _ c.requires c.if-slots-length.false
